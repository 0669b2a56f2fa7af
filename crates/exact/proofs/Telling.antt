-- What filled rows tell of the whole numbers. Assumes nothing.
use Rattle.std.proofs.Common.{◌≡◌, ℕ, zero, suc, ◌<◌, ◌≤◌, false, List, [], ◌∷◌, length, get_or, None, Option, Result, sym, refl, ap, ◌∙◌, subst₂, arith}
use Rattle.kind.specs.Capped.{size, size_operations}
use Rattle.kind.specs.Wrapping.{tick, tick_operations}
use Rattle.tape.specs.declared.refusals.Refusal.{Refusal}
use Rattle.tape.specs.Refusals.{Answered, Notice}
use Rattle.tape.specs.Tapes.{Valid, registers}
use Rattle.tape.proofs.Answering.{answered}
use Rattle.exact.specs.declared.answers.StepRange.{StepRange}
use Rattle.exact.specs.declared.answers.Whole.{Whole}
use Rattle.exact.specs.Exact.{Exact, IsExact, Work, Worked, lengths}
use Rattle.exact.specs.Ranges.{Keeps, KeepsAll, Range}
use Rattle.exact.specs.Readings.{Reads, read_slope, read_value, signed_word, sizes_at, words_at}
use Rattle.exact.specs.Refusals.{AnsweredAfter, large, refuse_first, refuse_registers, refuse_sizes}
use Rattle.exact.specs.Steps.{KeepsTests, Steps}
use Rattle.exact.specs.Wholes.{Question, image_pair}
use Rattle.exact.proofs.Bounding.{ticks_and_sizes}
use Rattle.exact.proofs.Finding.{first_same, not_refused}
use Rattle.exact.proofs.Showing.{filled_at, small}

-- an answer after the work, from the same causes, that says more of what was done
after_work : {R : Type 0} (before after after' : Option Notice) (res : Result R Refusal) (same worked : Type 0) (done done' : R → Type 0)
    → before ≡ None → after ≡ after' → worked → ((v : R) → after ≡ None → done v → done' v) → Answered after res (Unit {0}) done → AnsweredAfter before after' res same worked done'
after_work before after after' res same worked done done' free is work more h =
    subst₂ (λ b a. AnsweredAfter b a res same worked done') (sym free) is
    (work, answered (λ w r. Answered w r (Unit {0}) done') after res (λ e _. (refl, tt)) (λ v none d. more v none d) h)

module _ (q : Question) (old new : Work) (valid : Valid q.tape) (given : q.tape.controls ≤ length q.controls) (directed : q.tape.controls ≤ length q.direction) (worked : Worked q old new) where
  -- the sizes of a register, and its ticks in the signed reading where the sizes are small

  sizes_are : (r : ℕ) → r < registers q.tape → sizes_at new.sizes r ≡ image_pair q size_operations r
  sizes_are r known = filled_at size_operations size q old.sizes new.sizes worked.sizes r known

  reads_exact : (r : ℕ) → r < registers q.tape → large (sizes_at new.sizes r) ≡ false → (a : Whole) → Reads (words_at new.pairs r) a → IsExact q r a
  reads_exact r known fits a reads =
      let told = ticks_and_sizes q valid given directed r in
      let below = small (image_pair q size_operations r) (ap large (sym (sizes_are r known)) ∙ fits) in
      let words : words_at new.pairs r ≡ image_pair q tick_operations r = filled_at tick_operations tick q old.pairs new.pairs worked.pairs r known in
      record {
        value = reads.value ∙ ap (λ d. signed_word d.value) words ∙ told.0.read below.0;
        slope = reads.slope ∙ ap (λ d. signed_word d.tangent) words ∙ told.1.read below.1;
      }

  module _ (tests : List ℕ) (known : (i : ℕ) → i < length tests → get_or tests i 0 < registers q.tape) where
    same_refusal : refuse_sizes (sizes_at new.sizes) tests ≡ refuse_sizes (image_pair q size_operations) tests
    same_refusal =
        ap (λ found. refuse_first 10 found None)
        (first_same (λ r. large (sizes_at new.sizes r)) (λ r. large (image_pair q size_operations r)) tests (λ i b. ap large (sizes_are (get_or tests i 0) (known i b))))

    -- a range by the rows is one by the whole numbers
    keeps_tests : refuse_sizes (sizes_at new.sizes) tests ≡ None → (range : StepRange)
        → Range (KeepsAll (read_value new.pairs) (read_slope new.pairs) tests) range.low range.high → KeepsTests q tests range
    keeps_tests none range r =
        let is = λ (i : ℕ) (b : i < length tests). reads_exact (get_or tests i 0) (known i b) (not_refused 10 (λ r. large (sizes_at new.sizes r)) tests none i b)
        (record { value = read_value new.pairs (get_or tests i 0); slope = read_slope new.pairs (get_or tests i 0) }) (record { value = refl; slope = refl }) in
        record {
          low_in = r.low_in;
          high_in = r.high_in;
          stay = r.stay;
          within = λ s h i b. subst₂ (λ x y. Keeps x y s) (is i b).value (is i b).slope (r.within s h i b);
          only = λ s span keeps. r.only s span (λ i b. subst₂ (λ x y. Keeps x y s) (sym (is i b).value) (sym (is i b).slope) (keeps i b));
        }

    pub tell_steps : refuse_registers q.tape (lengths q old) tests ≡ None → (res : Result StepRange Refusal)
        → Answered (refuse_sizes (sizes_at new.sizes) tests) res (Unit {0}) (λ p. Range (KeepsAll (read_value new.pairs) (read_slope new.pairs) tests) p.low p.high)
        → Steps q tests old new res
    tell_steps free res h = after_work _ _ _ res _ _ _ _ free same_refusal worked (λ range none r. keeps_tests none range r) h

  pub tell_exact : (r : ℕ) → r < registers q.tape → refuse_registers q.tape (lengths q old) (r ∷ []) ≡ None → (res : Result Whole Refusal)
      → Answered (refuse_sizes (sizes_at new.sizes) (r ∷ [])) res (Unit {0}) (Reads (words_at new.pairs r)) → Exact q r old new res
  tell_exact r known free res h =
      let only = λ (i : ℕ) (b : i < length (r ∷ [])). one_known r known i b in
      after_work _ _ _ res _ _ _ _ free (same_refusal (r ∷ []) only) worked
      (λ a none reads. reads_exact r known (not_refused 10 (λ s. large (sizes_at new.sizes s)) (r ∷ []) none 0 (omega arith)) a reads) h
    where
      one_known : (r : ℕ) → r < registers q.tape → (i : ℕ) → i < length (r ∷ []) → get_or (r ∷ []) i 0 < registers q.tape
      one_known r known zero b = known
      one_known r known (suc i) b = absurd (omega arith)
