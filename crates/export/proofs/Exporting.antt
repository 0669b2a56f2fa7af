-- An export's answer, used. Assumes nothing.
use Rattle.std.proofs.Common.{◌≡◌, ℕ, Some, None, Ok, Err, Option, sym, refl, ap, arith}
use Rattle.packed.specs.Faults.{Finding}
use Rattle.tape.specs.declared.refusals.Refusal.{Refusal}
use Rattle.tape.specs.Refusals.{Notice, notice}
use Rattle.export.specs.declared.faults.ExportFault.{ExportFault}
use Rattle.export.specs.declared.faults.ExportFault.TheVariants.{File, Query}
use Rattle.export.specs.Exports.{Exported}

module _ {R : Type 0} (what : Option Finding) (why : Option Notice) (same : Type 0) (done : R → Type 0) where
  -- what was answered was not declined
  pub not_declined : (v : R) → Exported what why (Ok v) same done → (why ≡ None) × done v
  not_declined v h = go what why h
    where
      go : (w : Option Finding) (y : Option Notice) → Exported w y (Ok v) same done → (y ≡ None) × done v
      go (Some f) y h = absurd h
      go None (Some n) h = absurd h
      go None None h = (refl, h)

  -- of a file without a fault, it is the query that was declined, and it says why
  pub why_declined : (f : ExportFault) → what ≡ None → Exported what why (Err f) same done → (e : Refusal) × (f ≡ Query e) × (why ≡ Some (notice e))
  why_declined f none h = go what why f none h
    where
      go : (w : Option Finding) (y : Option Notice) (f : ExportFault) → w ≡ None → Exported w y (Err f) same done → (e : Refusal) × (f ≡ Query e) × (y ≡ Some (notice e))
      go (Some f) y (File e) none h = let z : ◌≡◌ {A = ℕ} 0 1 = cc in absurd (omega arith)
      go (Some f) y (Query e) none h = absurd h
      go None (Some n) (File e) none h = absurd h
      go None (Some n) (Query e) none h = (e, refl, ap Some (sym h.0))
      go None None f none h = absurd h
