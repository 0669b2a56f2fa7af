-- What the exporter answers: a file's fault before a query's refusal, either with all left as it was. Assumes nothing.
use Rattle.std.specs.Prelude.{◌≡◌, Some, None, Ok, Err, Option, Result}
use Rattle.packed.specs.Faults.{Finding, finding}
use Rattle.tape.specs.Refusals.{Notice, notice}
use Rattle.export.specs.declared.faults.ExportFault.{ExportFault}
use Rattle.export.specs.declared.faults.ExportFault.TheVariants.{File, Query}

abbrev pub Exported : {R : Type 0} → Option Finding → Option Notice → Result R ExportFault → (same : Type 0) → (done : R → Type 0) → Type 0
Exported (Some what) why (Ok v) same done = ⊥
Exported (Some what) why (Err (File e)) same done = (finding e ≡ what) × same
Exported (Some what) why (Err (Query e)) same done = ⊥
Exported None (Some why) (Ok v) same done = ⊥
Exported None (Some why) (Err (File e)) same done = ⊥
Exported None (Some why) (Err (Query e)) same done = (notice e ≡ why) × same
Exported None None (Ok v) same done = done v
Exported None None (Err e) same done = ⊥
