use Rattle.std.proofs.Common.{◌∙◌}
use Rattle.packed.proofs.Decoding.{line_split}
use Rattle.packed.proofs.reading.line_in.Goals as goal

pub returns : goal.returns
returns c = c.split_line.ensures ∙ line_split c.args.bytes.now c.args.at _ c.requires.within c.read_line.ensures.value
