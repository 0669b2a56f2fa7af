use Rattle.std.proofs.Common.{◌<◌, length, arith, rules}
use Rattle.tape.proofs.Spreading.{spread_next, below_at}
use Rattle.tape.proofs.tables.Table.spread.Goals as goal

pub loop-j-preserved : goal.loop-j-preserved
loop-j-preserved c =
    let t = c.args.self.now in
    let now = c.loop-j.self in
    let so_far = c.loop-j.invariant in
    let in_lines : c.loop-j.j < length t.lines = search rules in
    let in_now : c.loop-j.j < length now.stale = search rules in record {
      controls = so_far.controls;
      count = so_far.count;
      lines = so_far.lines;
      marks = rw (c.touches-reached.ensures, so_far.lines, so_far.controls)
          (spread_next t.controls c.args.q c.loop-j.j t.lines t.stale now.stale in_lines in_now
          (λ i h. below_at t.controls t.count i t.lines (search rules) t.below (omega arith)) so_far.marks);
    }
