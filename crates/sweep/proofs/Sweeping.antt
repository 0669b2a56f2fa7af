-- The forward sweep, over meanings: the loop's start, step and end. Assumes nothing.
use Rattle.std.proofs.Common.{min, subst₂, length-append, length-drop, ◌≡◌, ℕ, ◌+◌, ◌-◌, ◌<◌, ◌≤◌, List, [], ◌++◌, map, length, take, drop, set, pos, sym, ap, ◌∙◌, ap₂, arith, length-take}
use Rattle.std.proofs.lemmas.List.{get_or-take, length-map, length-take-le, nil_from_length, take_all, take_at, take_min, take-map, take-take}
use Rattle.std.proofs.lemmas.Slice.{drop-append-drop}
use Rattle.std.proofs.lemmas.Bool.{lt-leb}
use Rattle.tape.specs.declared.lines.Line.TheVariants.{Constant}
use Rattle.kind.specs.Kinds.{Operations}
use Rattle.tape.specs.Rows.{at, grow}
use Rattle.tape.specs.Tapes.{Tape, line, registers}
use Rattle.tape.specs.Values.{line_value, values}
use Rattle.tape.proofs.Growing.{grow_length, grow_more, grow_to}
use Rattle.tape.proofs.Reading.{agree_below}
use Rattle.sweep.specs.Forward.{Filled, Swept, given}

module _ {M : Type 0} (o : Operations M) (t : Tape) (old : List M) where
  -- the row that the sweep makes of `old`
  abbrev pub target : List M
  target = values o (take t.controls old) (take (length old - t.controls) t.lines)

  pub target_length : length old ≤ registers t → length target ≡ length old
  target_length fits = grow_length (line_value o) (take t.controls old) (take (length old - t.controls) t.lines) ∙ simp length-take (omega arith)

  pub swept_none : take t.controls old ≡ take t.controls target
  swept_none =
      let n = t.controls in
      let none : take (n - length (take n old)) (take (length old - n) t.lines) ≡ [] = nil_from_length _ (simp length-take (omega arith)) in
      sym (grow_to (line_value o) (take n old) _ n ∙ ap (grow (line_value o) (take n (take n old))) none ∙ take-take n n old (omega arith))

  pub swept_more : (row : List M) (i : ℕ) (x : M) → length old ≤ registers t → length row ≡ length old → t.controls ≤ i → i < length old
      → take i row ≡ take i target → x ≡ line_value o (line t (i - t.controls)) (take i row) → take (i + 1) (set row i x) ≡ take (i + 1) target
  swept_more row i x fits long above within before is =
      let j = i - t.controls in
      let place : length (take t.controls old) + j ≡ i = simp length-take (omega arith) in
      let some : j < length (take (length old - t.controls) t.lines) = simp length-take (omega arith) in
      let same_line = get_or-take (length old - t.controls) t.lines j (Constant (pos 0)) (omega arith) in
      grow_more (line_value o) _ _ row i j x _ place some (omega arith) before (is ∙ ap (λ l. line_value o l (take i row)) (sym same_line))

  pub swept_all : (row : List M) (i : ℕ) → length old ≤ registers t → length row ≡ length old → length old ≤ i → take i row ≡ take i target → Swept o t old row
  swept_all row i fits long end same =
      sym (take_all i row (omega arith)) ∙ same ∙ take_all i target (rw (target_length fits) end)

-- A sweep over the part of a row that has registers.
pub swept_front : {K M : Type 0} (o : Operations M) (means : K → M) (t : Tape) (old part : List K) (end : ℕ) → end ≡ min (length old) (registers t) → length part ≡ length (take end old)
    → Swept o t (map means (take end old)) (map means part) → Swept o t (take (registers t) (map means old)) (take (registers t) (map means (part ++ drop end old)))
swept_front o means t old part end end_is part_is swept =
    let long : length part ≡ end = part_is ∙ length-take-le end old (omega arith) in
    let size : length (part ++ drop end old) ≡ length old = simp (length-append, length-drop) (omega arith) in
    let before = take-map means (registers t) old ∙ ap (map means) (sym (take_min (registers t) old) ∙ ap (λ k. take k old) (omega arith)) in
    let after = take-map means (registers t) (part ++ drop end old) ∙ ap (map means) (sym (take_min (registers t) (part ++ drop end old)) ∙ ap (λ k. take k (part ++ drop end old)) (omega arith) ∙ take_at part _ end long) in
    subst₂ (Swept o t) (sym before) (sym after) swept

-- A sweep over a row that begins with the controls.
pub sweep_fills : {M : Type 0} (o : Operations M) (t : Tape) (cs row new : List M) → length cs ≡ t.controls → take t.controls row ≡ take (length row) cs
    → Swept o t row new → new ≡ take (length row) (values o cs t.lines)
sweep_fills o t cs row new given begins swept =
    let lines_same : take (length row - t.controls) t.lines ≡ take (length row - length cs) t.lines = ap (λ k. take (length row - k) t.lines) (sym given) in
    swept ∙ ap₂ (values o) begins lines_same ∙ sym (grow_to (line_value o) cs t.lines (length row))

-- The part 0..r of a row, into which the controls cs were loaded, after a sweep.
module _ {K M : Type 0} (o : Operations M) (means : K → M) (t : Tape) (cs : List M) (r : ℕ) (old : List K) where
  pub part_fills : (loaded part : List K) (k : ℕ) (from : List M) → k ≡ t.controls → from ≡ cs → length cs ≡ t.controls → r < length old
      → length loaded ≡ length (take (r + 1) old) → length part ≡ length loaded → take k (map means loaded) ≡ take (length (take (r + 1) old)) from
      → Swept o t (map means loaded) (map means part) → Filled o means t cs r old (part ++ drop (r + 1) old)
  part_fills loaded part k from k_is from_is cs_is within loaded_is part_is begins swept =
      let size : length (take (r + 1) old) ≡ r + 1 = simp length-take (omega arith) in
      let long : length part ≡ r + 1 = part_is ∙ loaded_is ∙ size in
      let row_is : length (map means loaded) ≡ r + 1 = length-map loaded means ∙ loaded_is ∙ size in
      let begins_so : take t.controls (map means loaded) ≡ take (length (map means loaded)) cs =
      ap (λ n. take n (map means loaded)) (sym k_is) ∙ begins ∙ ap₂ take (size ∙ sym row_is) from_is in
      record {
        filled = take-map means (r + 1) (part ++ drop (r + 1) old) ∙ ap (map means) (take_at part _ (r + 1) long)
            ∙ sweep_fills o t cs (map means loaded) (map means part) cs_is begins_so swept ∙ ap (λ n. take n (values o cs t.lines)) row_is;
        later = drop-append-drop (r + 1) old part (r + 1) (omega arith) long;
      }

  -- the answer, read from a row that is filled
  pub filled_at : (new : List K) (x : M) → Filled o means t cs r old new → x ≡ at o (map means new) r → x ≡ at o (values o cs t.lines) r
  filled_at new x fills is = is ∙ agree_below o (r + 1) _ _ fills.filled r (lt-leb (r + 1) r (omega arith))

-- The part 0..n of a row of controls is what the controls are given.
pub given_part : {K M : Type 0} (means : K → M) (t : Tape) (n : ℕ) (row : List K) → n ≡ t.controls → map means (take n row) ≡ given means t row
given_part means t n row is = ap (λ k. map means (take k row)) is

pub given_size : {K : Type 0} (t : Tape) (n : ℕ) (row : List K) → n ≡ t.controls → t.controls ≤ length row → length (take n row) ≡ t.controls
given_size t n row is long = length-take-le n row (omega arith) ∙ is

pub given_length : {K M : Type 0} (means : K → M) (t : Tape) (row : List K) → t.controls ≤ length row → length (given means t row) ≡ t.controls
given_length means t row long = length-map _ means ∙ length-take-le t.controls row long
