-- What a session in order replies. Assumes nothing.
use Rattle.std.proofs.Common.{◌≡◌, ℕ, ◌+◌, ◌<◌, ◌≤◌, false, List, map, length, take, None, Result, sym, refl, ap, ◌∙◌, arith}
use Rattle.std.proofs.lemmas.List.{length-take-le, take-take}
use Rattle.std.proofs.lemmas.Bool.Decides.{nat_tests}
use Rattle.kind.specs.Kinds.{Laws, Operations}
use Rattle.session.specs.declared.answers.Graded.{Graded}
use Rattle.session.specs.declared.calls.Call.TheVariants as call
use Rattle.session.specs.Queries.{Grades, WasGraded}
use Rattle.session.specs.Refusals.{refuse_value}
use Rattle.session.specs.Runs.{Good, Keeps, book}
use Rattle.session.specs.States.{State, WasAsked}
use Rattle.session.proofs.Entering.{never_short, right_answer, sweep_enters, swept_values}
use Rattle.sweep.specs.Forward.{given}
use Rattle.sweep.specs.Refusals.{refuse_backward}
use Rattle.sweep.proofs.Gradients.{gradient_of_row, transposes_same}
use Rattle.tape.specs.declared.refusals.Refusal.{Refusal}
use Rattle.tape.specs.Marks.{refuse_register}
use Rattle.tape.specs.Refusals.{refuse_query}
use Rattle.tape.specs.Tapes.{Valid, registers}
use Rattle.tape.specs.Values.{values}
use Rattle.tape.proofs.Answering.{answered_as}
use Rattle.replay.specs.declared.queries.Query.TheVariants as query
use Rattle.replay.specs.Answers.{Replied, gradient, value}
use Rattle.replay.specs.Runs.{Steps}
use Rattle.replay.proofs.Replying.{done, gradient_reply}

module _ {K M : Type 0} (o : Operations M) (means : K → M) (s s' : State K) (valid : Valid s.tape) (k : ℕ) where
  -- a session's book is its own
  own : Good o means s → Keeps o means (length s.row) (book o means s) s
  own good = record { good = good; long = refl; entered = refl }

  pub value_says : Good o means s → (x : K) (worked : ℕ) → refuse_value s.tape (length s.row) k ≡ None → WasAsked o means s k x worked s'
      → Replied o s.tape (given means s.tape s.row) means (query.Value k) (value (means x))
  value_says good x worked free asked =
      let kept = own good in
      record {
        says = done _ _ _ (sym (never_short o means s s' (length s.row) (book o means s) kept k) ∙ free) (ap value (right_answer o means s s' (length s.row) (book o means s) kept k x worked valid free asked));
        lawful = tt;
      }

  pub gradient_enters : (old new : List K) (r : Result (Graded K) Refusal) → Grades o means s k old r s' new → Steps o means (call.Gradient k) s s'
  gradient_enters old new r h =
      sweep_enters o means s s' (call.Gradient k) (λ _ _. refl) valid (refuse_backward s.tape (length s.row) (length old) k) k r (λ a. a.worked) (λ a. WasGraded o means s k old a s' new)
      (λ a d. d.asked.after) (answered_as _ r _ _ _ (λ p. p.0) h)

  pub gradient_says : Laws o → Good o means s → (old new entries : List K) (a : Graded K) → 1152 ≤ length old → length new ≡ length old → entries ≡ take s.tape.controls new
      → refuse_backward s.tape (length s.row) (length old) k ≡ None → WasGraded o means s k old a s' new
      → Replied o s.tape (given means s.tape s.row) means (query.Gradient k) (gradient (means a.value) (map means entries) a.operations)
  gradient_says laws good old new entries a roomy same_length first free graded =
      let t = s.tape in
      let N = registers t in
      let cs = given means t s.row in
      let V = values o cs t.lines in
      let kept = own good in
      let fits = good.fits in
      let few = valid.few_controls in
      let lines = valid.few_lines in
      let swept : refuse_register t (length s.row) k ≡ None = grind (arith, nat_tests) in
      let known : k < N = grind (arith, nat_tests) in
      let free' : refuse_query t false k ≡ None = sym (never_short o means s s' (length s.row) (book o means s) kept k) ∙ swept in
      let kept_values = swept_values o means s s' (length s.row) (book o means s) kept k a.worked valid swept graded.asked.after in
      let same : take k (map means s'.row) ≡ take k V =
      sym (take-take k (k + 1) (map means s'.row) (omega arith)) ∙ ap (take k) (sym kept_values) ∙ take-take k (k + 1) V (omega arith) in
      let law = transposes_same o t valid k known laws (map means s'.row) V (map means (take N new)) same graded.walked.adjoint.transposes in
      let part_is : length (take N new) ≡ N = length-take-le N new (omega arith) in
      let begins : take t.controls new ≡ take t.controls (take N new) = sym (take-take t.controls N new (omega arith)) in
      gradient_reply o t cs means k a.value new entries a.operations first free' (right_answer o means s s' (length s.row) (book o means s) kept k a.value a.worked valid swept graded.asked)
      (gradient_of_row laws means t k known new (take N new) part_is begins cs law) graded.walked.operations_are
