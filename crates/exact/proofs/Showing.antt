-- What rows show at a register, and rows that are filled from images. Assumes nothing.
use Rattle.std.proofs.Common.{◌++◌, drop, length-append, length-drop, ◌≡◌, ℕ, ◌+◌, ◌-◌, ◌^◌, ◌<◌, ◌≤◌, false, List, map, length, take, sym, ap, ◌∙◌, arith}
use Rattle.std.proofs.lemmas.List.{length-map, length-take-le, take_all, take_at, take-map, take-take}
use Rattle.std.proofs.lemmas.Slice.{drop-append-drop}
use Rattle.tape.specs.Values.{values}
use Rattle.sweep.specs.Forward.{Swept}
use Rattle.sweep.proofs.Sweeping.{sweep_fills}
use Rattle.std.proofs.lemmas.Bool.{lt-leb}
use Rattle.std.proofs.lemmas.Bool.Decides.{nat_tests}
use Rattle.kind.specs.declared.dual.Pair.{Pair}
use Rattle.kind.specs.Capped.{Capped}
use Rattle.kind.specs.Dual.{Dual, dual, dual_operations}
use Rattle.kind.specs.Kinds.{Operations}
use Rattle.sweep.specs.Forward.{Filled}
use Rattle.tape.specs.Rows.{at}
use Rattle.tape.specs.Tapes.{Tape, registers}
use Rattle.tape.proofs.Reading.{agree_below}
use Rattle.exact.specs.Exact.{FilledWhole}
use Rattle.exact.specs.Refusals.{large}
use Rattle.exact.specs.Wholes.{Question, image_pair}

pub small : (d : Dual Capped) → large d ≡ false → (d.value.number < 2 ^ 63) × (d.tangent.number < 2 ^ 63)
small d e = (grind (arith, nat_tests), grind (arith, nat_tests))

-- a row into which the controls cs were loaded, after its part of all registers was worked out
pub evaluated : {K M : Type 0} (o : Operations M) (means : K → M) (t : Tape) (cs : List M) (old items part : List K) (n end : ℕ) → n ≡ t.controls → end ≡ registers t → 1 ≤ t.controls
    → length cs ≡ t.controls → length items ≡ t.controls → end ≤ length old → map means items ≡ cs → length part ≡ length (take end (items ++ drop n old))
    → Swept o t (take (registers t) (map means (take end (items ++ drop n old)))) (take (registers t) (map means part))
    → Filled o means t cs (registers t - 1) old (part ++ drop end (items ++ drop n old))
evaluated o means t cs old items part n end n_is end_is some cs_is long room loaded part_is swept =
    let k = registers t in
    let last : k - 1 + 1 ≡ k = omega arith in
    let row = items ++ drop n old in
    let row_is : length row ≡ length old = simp (length-append, length-drop) (omega arith) in
    let part_long : length part ≡ k = part_is ∙ length-take-le end row (omega arith) ∙ end_is in
    let start = take k (map means (take end row)) in
    let start_row : start ≡ take k (map means row) = ap (take k) (sym (take-map means end row)) ∙ take-take k end (map means row) (omega arith) in
    let start_is : length start ≡ k = ap length start_row ∙ length-take-le k (map means row) (rw (length-map row means) (omega arith)) in
    let begins : take t.controls start ≡ take (length start) cs =
    ap (take t.controls) start_row ∙ take-take t.controls k (map means row) (omega arith) ∙ take-map means t.controls row ∙ ap (map means) (take_at items _ t.controls long) ∙ loaded
    ∙ sym (take_all (length start) cs (omega arith)) in
    let front : take k (map means (part ++ drop end row)) ≡ take k (map means part) =
    take-map means k (part ++ drop end row) ∙ ap (map means) (take_at part _ k part_long) ∙ sym (take_all k (map means part) (rw (length-map part means) (omega arith))) in
    record {
      filled = ap (λ m. take m (map means (part ++ drop end row))) last ∙ front ∙ sweep_fills o t cs start (take k (map means part)) cs_is begins swept
          ∙ ap (λ m. take m (values o cs t.lines)) (start_is ∙ sym last);
      later = ap (λ m. drop m (part ++ drop end row)) last ∙ drop-append-drop end row part k (omega arith) (omega arith) ∙ drop-append-drop n old items k (omega arith) (omega arith)
          ∙ ap (λ m. drop m old) (sym last);
    }

-- the entry of a register in a row that is filled from images
pub filled_at : {K M : Type 0} (o : Operations M) (means : K → M) (q : Question) (old new : List (Pair K)) → FilledWhole o means q old new → (r : ℕ) → r < registers q.tape
    → at (dual_operations o) (map (dual means) new) r ≡ image_pair q o r
filled_at o means q old new fills r known =
    agree_below (dual_operations o) (registers q.tape - 1 + 1) _ _ fills.filled r (lt-leb (registers q.tape - 1 + 1) r (omega arith))
