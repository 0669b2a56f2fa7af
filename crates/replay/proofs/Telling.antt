-- From what a party answers to what a reply means. Assumes nothing.
use Rattle.std.proofs.Common.{◌≡◌, ℕ, MatchResult, Bool, true, ltb, zero, suc, ◌-◌, ◌≤◌, false, List, ◌++◌, ◌∷◌, map, length, take, drop, replicate, Some, None, Ok, Err, Option, Result, min, sym, refl, ap, ap₂, ◌∙◌, subst, arith}
use Rattle.std.proofs.lemmas.List.{length-map, take_at, drop_at, drop_all, drop-map, take_all, length-take-le, append-nil, drop-replicate}
use Rattle.std.proofs.lemmas.Bool.Decides.{nat_tests}
use Rattle.std.specs.Result.{IsErrAnd}
use Rattle.std.proofs.lemmas.Result.{err_from_is_err_and}
use Rattle.std.proofs.lemmas.List.FromFn.{length-map-range_with_len}
use Rattle.export.specs.declared.faults.ExportFault.{ExportFault}
use Rattle.export.specs.declared.faults.ExportFault.TheVariants.{File, Query as QueryFault}
use Rattle.kind.specs.Kinds.{Operations}
use Rattle.sweep.specs.Forward.{given}
use Rattle.tape.specs.declared.refusals.Refusal.{Refusal}
use Rattle.tape.specs.Refusals.{Notice, refuse_query}
use Rattle.tape.specs.Rows.{unit}
use Rattle.tape.specs.Tapes.{Tape}
use Rattle.tape.specs.Values.{backward_count}
use Rattle.replay.specs.declared.findings.Finding.{Finding}
use Rattle.replay.specs.declared.findings.Finding.TheVariants as found
use Rattle.replay.specs.declared.queries.Query.{Query}
use Rattle.replay.specs.declared.queries.Query.TheVariants as query
use Rattle.replay.specs.declared.replies.Reply.{Reply}
use Rattle.replay.specs.Answers.{Answer, Replied, answer_of, exported, said, unless_declined, value, gradient, slope, bend, declined, broken, value_of, derivative_of, gradient_of, second_derivative_of, bend_of, short_direction}
use Rattle.replay.specs.Replies.{Front, ReplyOf, Padded, Told}

-- a query's refusal, as the exporter tells it
abbrev pub as_export : {K : Type 0} → Result (Finding K) Refusal → Result (Finding K) ExportFault
as_export (Ok a) = Ok a
as_export (Err e) = Err (QueryFault e)

-- what `map_err` makes of an answer
pub as_export_is : {K : Type 0} (a : Result (Finding K) Refusal) (b : Result (Finding K) ExportFault) → MatchResult a (λ x. b ≡ Ok x) (λ e. IsErrAnd b (λ f. f ≡ QueryFault e)) → b ≡ as_export a
as_export_is (Ok x) b is = is
as_export_is (Err e) b is = let gone = err_from_is_err_and b is in gone.1 ∙ ap Err gone.2

module _ {K M : Type 0} (o : Operations M) (means : K → M) where
  entries_length : (entries : List K) (n : ℕ) → length (map means entries) ≡ n → length entries ≡ n
  entries_length entries n h = sym (length-map entries means) ∙ h

  zeros_mean : (n : ℕ) (z : K) → means z ≡ o.zero → map means (replicate n z) ≡ replicate n o.zero
  zeros_mean zero z is = refl
  zeros_mean (suc n) z is = ap₂ (λ x l. x ∷ l) is (zeros_mean n z is)

  -- a row of zeros, over whose front the entries of another were written
  pub front_is : (row : List K) (z : K) (both : ℕ) → means z ≡ o.zero → both ≡ min (length row) 128 → Front o means row (take both row ++ drop both (replicate 128 z))
  front_is row z both z_is least =
      let parts = written 128 row z both least in
      record { first = parts.0; rest = drop-map means (length row) _ ∙ ap (map means) parts.1 ∙ zeros_mean (128 - length row) z z_is }
    where
      written : (n : ℕ) (row : List K) (z : K) (both : ℕ) → both ≡ min (length row) n
          → (take (length row) (take both row ++ drop both (replicate n z)) ≡ take n row) × (drop (length row) (take both row ++ drop both (replicate n z)) ≡ replicate (n - length row) z)
      written n row z both least = go (ltb (length row) n) refl
        where
          zs : List K
          zs = replicate n z

          go : (b : Bool) → ltb (length row) n ≡ b → (take (length row) (take both row ++ drop both zs) ≡ take n row) × (drop (length row) (take both row ++ drop both zs) ≡ replicate (n - length row) z)
          go true h =
              let all : both ≡ length row = grind (arith, nat_tests, least, h) in
              let short : length row ≤ n = grind (arith, nat_tests, h) in
              let zeros = replicate (n - length row) z in
              let is : take both row ++ drop both zs ≡ row ++ zeros =
              ap (λ k. take k row ++ drop k zs) all ∙ ap₂ (λ l r. l ++ r) (take_all (length row) row (omega arith)) (drop-replicate (length row) n z) in
              (ap (take (length row)) is ∙ take_at row zeros (length row) refl ∙ sym (take_all n row short), ap (drop (length row)) is ∙ drop_at row zeros (length row) refl)
          go false h =
              let all : both ≡ n = grind (arith, nat_tests, least, h) in
              let long : n ≤ length row = grind (arith, nat_tests, h) in
              let empty : n - n ≡ 0 = omega arith in
              let none : n - length row ≡ 0 = omega (arith, long) in
              let whole : length (take n row) ≡ n = length-take-le n row long in
              let is : take both row ++ drop both zs ≡ take n row =
              ap (λ k. take k row ++ drop k zs) all ∙ ap (λ l. take n row ++ l) (drop-replicate n n z ∙ ap (λ k. replicate k z) empty) ∙ append-nil (take n row) in
              (ap (take (length row)) is ∙ take_all (length row) (take n row) (omega (arith, whole, long)), ap (drop (length row)) is ∙ drop_all (length row) (take n row) (omega (arith, whole, long)) ∙ sym (ap (λ k. replicate k z) none))

  pub export_says : (t : Tape) (cs : List M) (q : Query K) (a : Result (Finding K) Refusal) → Replied o t cs means q (said means a) → Replied o t cs means q (exported means (as_export a))
  export_says t cs q (Ok a) h = h
  export_says t cs q (Err e) h = h

  module _ (t : Tape) (few : t.controls ≤ 128) where
    -- a row that begins with the entries of the controls

    pub begins : (entries row : List K) → length entries ≡ t.controls → Front o means entries row → given means t row ≡ map means entries
    begins entries row long is =
        ap (λ n. given_of n row) (sym long) ∙ ap (map means) (is.first ∙ take_all 128 entries (omega (arith, long, few)))
      where
        given_of : ℕ → List K → List M
        given_of n l = map means (take n l)

    pub goes_on : (entries row : List K) → length entries ≡ t.controls → Front o means entries row → Padded o means t row
    goes_on entries row long is = subst (λ n. drop n (map means row) ≡ replicate (128 - n) o.zero) long is.rest

    -- an answer of the definitions has as many entries as the tape has controls, if it has any

    abbrev AsLong : Answer M → Type 0
    AsLong (value x) = Unit {0}
    AsLong (gradient x g operations) = length g ≡ t.controls
    AsLong (slope x) = Unit {0}
    AsLong (bend b) = length b ≡ t.controls
    AsLong (declined why) = Unit {0}
    AsLong (broken what) = Unit {0}

    unless_length : (why : Option Notice) (a : Answer M) → AsLong a → AsLong (unless_declined why a)
    unless_length (Some w) a h = tt
    unless_length None a h = h

    answer_length : (cs : List M) (q : Query K) → AsLong (answer_of o t cs means q)
    answer_length cs (query.Value r) = unless_length (refuse_query t false r) (value (value_of o t cs r)) tt
    answer_length cs (query.Gradient r) =
        unless_length (refuse_query t false r) (gradient (value_of o t cs r) (gradient_of o t cs r) (backward_count t r)) (length-map-range_with_len (λ i. derivative_of o t cs r (unit o t.controls i)) 0 t.controls)
    answer_length cs (query.Slope r d) = unless_length (refuse_query t (short_direction o t cs means d.now) r) (slope (derivative_of o t cs r (given means t d.now))) tt
    answer_length cs (query.Bend r d) =
        unless_length (refuse_query t (short_direction o t cs means d.now) r) (bend (bend_of o t cs r (given means t d.now)))
        (length-map-range_with_len (λ i. second_derivative_of o t cs r (given means t d.now) (unit o t.controls i)) 0 t.controls)

    pub told_is : (cs : List M) (q : Query K) (a : Result (Finding K) ExportFault) (r : Reply K) → Replied o t cs means q (exported means a) → ReplyOf o means a r → Told o means t cs q r
    told_is cs q (Ok (found.Value x)) r h is = subst (Told o means t cs q) (sym is) (record { replied = h; rest = tt })
    told_is cs q (Ok (found.Gradient x entries operations)) r h (row, is, front) =
        let long : length entries.items ≡ t.controls = entries_length entries.items t.controls (subst AsLong (sym h.says) (answer_length cs q)) in
        subst (Told o means t cs q) (sym is) (record {
          replied = subst (λ l. Replied o t cs means q (gradient (means x) l operations)) (sym (begins entries.items row long front)) h;
          rest = goes_on entries.items row long front;
        })
    told_is cs q (Ok (found.Slope x)) r h is = subst (Told o means t cs q) (sym is) (record { replied = h; rest = tt })
    told_is cs q (Ok (found.Bend entries)) r h (row, is, front) =
        let long : length entries.items ≡ t.controls = entries_length entries.items t.controls (subst AsLong (sym h.says) (answer_length cs q)) in
        subst (Told o means t cs q) (sym is) (record {
          replied = subst (λ l. Replied o t cs means q (bend l)) (sym (begins entries.items row long front)) h;
          rest = goes_on entries.items row long front;
        })
    told_is cs q (Err (QueryFault e)) r h is = subst (Told o means t cs q) (sym is) (record { replied = h; rest = tt })
    told_is cs q (Err (File e)) r h is = subst (Told o means t cs q) (sym is) (record { replied = h; rest = tt })
