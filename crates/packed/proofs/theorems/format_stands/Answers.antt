use Rattle.std.proofs.Common.{sym, ◌∙◌}
use Rattle.packed.proofs.Looking.{faultless}
use Rattle.packed.proofs.Decoding.{packed_of, valid_of}
use Rattle.packed.proofs.RoundTrips.{one_file, reads_back, file_accepted}
use Rattle.packed.proofs.Findings.{one_fault}
use Rattle.packed.proofs.theorems.format_stands.Goals as goal

pub returns : goal.returns
returns c = record {
  back = λ t bytes valid p. (file_accepted t bytes valid p, reads_back t bytes valid p);
  only = λ bytes fit e. (packed_of bytes (faultless bytes e) fit, valid_of bytes (faultless bytes e));
  file = one_file;
  tape = λ t u bytes vt vu pt pu. sym (reads_back t bytes vt pt) ∙ reads_back u bytes vu pu;
  fault = one_fault;
}
