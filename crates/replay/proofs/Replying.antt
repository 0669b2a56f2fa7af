-- From what a call leaves to what a reply means. Assumes nothing.
use Rattle.std.proofs.Common.{◌≡◌, ℕ, ◌<◌, ◌≤◌, false, ◌||◌, ltb, List, ◌++◌, map, length, get_or, take, Some, None, Err, Option, Result, sym, ap, ◌∙◌, subst, arith}
use Rattle.std.specs.Borrow.{Bor}
use Rattle.std.specs.List.{range_with_len}
use Rattle.std.proofs.lemmas.List.FromFn.{get_or-map-range_with_len, length-map-range_with_len}
use Rattle.std.proofs.lemmas.List.{ext_get_or, take_at}
use Rattle.std.proofs.lemmas.Bool.Decides.{nat_tests}
use Rattle.export.specs.declared.faults.ExportFault.{ExportFault}
use Rattle.export.specs.declared.faults.ExportFault.TheVariants.{Query as QueryFault}
use Rattle.kind.specs.Kinds.{Operations}
use Rattle.packed.specs.Formats.{tape_of}
use Rattle.packed.specs.Looks.{fault_of}
use Rattle.packed.proofs.Decoding.{valid_of}
use Rattle.packed.proofs.Looking.{faultless}
use Rattle.sweep.specs.Forward.{given}
use Rattle.sweep.specs.Queries.{IsBend, IsGradient}
use Rattle.sweep.specs.Refusals.{refuse_bend, refuse_gradient, refuse_slope, refuse_value}
use Rattle.sweep.specs.Reverse.{Counted}
use Rattle.tape.specs.declared.refusals.Refusal.{Refusal}
use Rattle.tape.specs.Refusals.{Notice, notice, refuse_query}
use Rattle.tape.specs.Rows.{unit}
use Rattle.tape.specs.Tapes.{Tape, Valid, registers}
use Rattle.replay.specs.declared.findings.Finding.{Finding}
use Rattle.replay.specs.declared.queries.Query.{Query}
use Rattle.replay.specs.declared.queries.Query.TheVariants as query
use Rattle.replay.specs.Answers.{bend, declined, gradient}
use Rattle.replay.specs.Answers.{Answer, Lawful, Replied, answer_of, exported, said, bend_of, derivative_of, gradient_of, second_derivative_of, short_direction, unless_declined, value_of}

-- a file without a fault means a tape within its limits
pub file_valid : (bytes : List ℕ) → fault_of bytes ≡ None → Valid (tape_of bytes)
file_valid bytes none = valid_of bytes (faultless bytes none)

-- a row by its entries
by_entries : {M : Type 0} (z : M) (n : ℕ) (f : ℕ → M) (row : List M) → length row ≡ n → ((i : ℕ) → i < n → get_or row i z ≡ f i) → row ≡ map f (range_with_len 0 n)
by_entries z n f row long each =
    ext_get_or z row (map f (range_with_len 0 n)) (long ∙ sym (length-map-range_with_len f 0 n))
    (λ i h. let low : i < n = omega arith in each i low ∙ sym (get_or-map-range_with_len f 0 n i i z low (omega arith)))

-- no working row is too short for a tape within its limits

module _ (t : Tape) (valid : Valid t) (r : ℕ) where
  few : t.controls ≤ 128
  few = valid.few_controls

  lines : length t.lines ≤ 1024
  lines = valid.few_lines

  pub roomy_value : (c w : ℕ) → t.controls ≤ c → w ≡ 1152 → refuse_value t c w r ≡ refuse_query t false r
  roomy_value c w hc hw =
      let full : (ltb c t.controls || ltb w (registers t)) ≡ false = grind (arith, nat_tests, few, lines) in ap (λ b. refuse_query t b r) full

  pub roomy_gradient : (c w a : ℕ) → t.controls ≤ c → w ≡ 1152 → a ≡ 1152 → refuse_gradient t c w a r ≡ refuse_query t false r
  roomy_gradient c w a hc hw ha =
      let full : (ltb c t.controls || (ltb w (registers t) || ltb a (registers t))) ≡ false = grind (arith, nat_tests, few, lines) in ap (λ b. refuse_query t b r) full

  pub roomy_slope : (c d w : ℕ) → t.controls ≤ c → w ≡ 1152 → refuse_slope t c d w r ≡ refuse_query t (ltb d t.controls) r
  roomy_slope c d w hc hw =
      let full : (ltb c t.controls || (ltb d t.controls || ltb w (registers t))) ≡ ltb d t.controls = grind (arith, nat_tests, few, lines) in ap (λ b. refuse_query t b r) full

  pub roomy_bend : (c d w a u : ℕ) → t.controls ≤ c → w ≡ 1152 → a ≡ 1152 → u ≡ 1152 → refuse_bend t c d w a u r ≡ refuse_query t (ltb d t.controls) r
  roomy_bend c d w a u hc hw ha hu =
      let full : (ltb c t.controls || (ltb d t.controls || (ltb u t.controls || (ltb w (registers t) || ltb a (registers t))))) ≡ ltb d t.controls = grind (arith, nat_tests, few, lines) in
      ap (λ b. refuse_query t b r) full

-- a reply by the cause that there is, or is not, to decline

module _ {M : Type 0} where
  pub done : (why : Option Notice) (a b : Answer M) → why ≡ None → a ≡ b → a ≡ unless_declined why b
  done why a b free is = is ∙ ap (λ w. unless_declined w b) (sym free)

  pub refused : (why : Option Notice) (e : Refusal) (b : Answer M) → why ≡ Some (notice e) → declined (notice e) ≡ unless_declined why b
  refused why e b is = ap (λ w. unless_declined w b) (sym is)

module _ {M : Type 0} (o : Operations M) (t : Tape) (cs : List M) {K : Type 0} (means : K → M) where
  declined_lawful : (q : Query K) (why : Notice) → Lawful o t cs means q (declined why)
  declined_lawful (query.Value r) why = tt
  declined_lawful (query.Gradient r) why = tt
  declined_lawful (query.Slope r d) why = tt
  declined_lawful (query.Bend r d) why = tt

  declines : (q : Query K) (why : Option Notice) (b : Answer M) (e : Refusal) → answer_of o t cs means q ≡ unless_declined why b → why ≡ Some (notice e) → Replied o t cs means q (declined (notice e))
  declines q why b e answers is = record {
    says = refused why e b is ∙ sym answers;
    lawful = declined_lawful q (notice e);
  }

  -- an answer that hands a query's refusal on

  pub sheet_declines : (q : Query K) (why why' : Option Notice) (b : Answer M) (a : Result (Finding K) Refusal) (e : Refusal) → answer_of o t cs means q ≡ unless_declined why b
      → why' ≡ why → a ≡ Err e → why' ≡ Some (notice e) → Replied o t cs means q (said means a)
  sheet_declines q why why' b a e answers roomy is says =
      subst (λ x. Replied o t cs means q (said means x)) (sym is) (declines q why b e answers (sym roomy ∙ says))

  pub file_declines : (q : Query K) (why why' : Option Notice) (b : Answer M) (a : Result (Finding K) ExportFault) (f : ExportFault) → answer_of o t cs means q ≡ unless_declined why b
      → why' ≡ why → a ≡ Err f → (e : Refusal) × (f ≡ QueryFault e) × (why' ≡ Some (notice e)) → Replied o t cs means q (exported means a)
  file_declines q why why' b a f answers roomy is says =
      subst (λ x. Replied o t cs means q (exported means x)) (sym (is ∙ ap Err says.1)) (declines q why b says.0 answers (sym roomy ∙ says.2))

  pub gradient_reply : (r : ℕ) (x : K) (row entries : List K) (operations : ℕ) → entries ≡ take t.controls row → refuse_query t false r ≡ None → means x ≡ value_of o t cs r
      → IsGradient o t cs r (given means t row) → Counted t r operations → Replied o t cs means (query.Gradient r) (gradient (means x) (map means entries) operations)
  gradient_reply r x row entries operations first free value_is is counted =
      let g = given means t row in
      let all : g ≡ gradient_of o t cs r = by_entries o.zero t.controls (λ i. derivative_of o t cs r (unit o t.controls i)) g is.long is.entries in
      subst (λ l. Replied o t cs means (query.Gradient r) (gradient (means x) (map means l) operations)) (sym first) (record {
        says = done _ _ _ free (λ i. gradient (value_is i) (all i) (counted.count i));
        lawful = (is.along, counted.cheap);
      })

  pub bend_reply : (r : ℕ) (d : Bor (List K)) (row entries : List K) → entries ≡ take t.controls row → refuse_query t (short_direction o t cs means d.now) r ≡ None
      → IsBend o t cs (given means t d.now) r (given means t row) → Replied o t cs means (query.Bend r d) (bend (map means entries))
  bend_reply r d row entries first free is =
      let b = given means t row in
      let along = given means t d.now in
      let all : b ≡ bend_of o t cs r along = by_entries o.zero t.controls (λ i. second_derivative_of o t cs r along (unit o t.controls i)) b is.long is.entries in
      subst (λ l. Replied o t cs means (query.Bend r d) (bend (map means l))) (sym first) (record {
        says = done _ _ _ free (ap bend all);
        lawful = λ e e_is. (is.along e e_is, is.turned e e_is);
      })

-- the first entries of a row that was written to, and cut off after them
pub front_of : {K : Type 0} (n long : ℕ) (row rest items : List K) → length row ≡ long → items ≡ take n (take long (row ++ rest)) → items ≡ take n row
front_of n long row rest items is_long is = is ∙ ap (take n) (take_at row rest long is_long)
