use Rattle.std.proofs.Common.{◌≡◌, length, take, sym, ap, ◌∙◌, arith, rules}
use Rattle.session.specs.States.{state}
use Rattle.sweep.specs.Queries.{Bent}
use Rattle.sweep.specs.Refusals.{refuse_bend}
use Rattle.tape.specs.Tables.{table_valid}
use Rattle.tape.proofs.Answering.{not_declined}
use Rattle.replay.proofs.Replying.{bend_reply, front_of, roomy_bend}
use Rattle.replay.proofs.session_party.SessionParty.ask_bend.Goals as goal

pub returns : goal.returns
returns g c = λ good.
    let o = g.K.Kind.ops in
    let m = g.K.Kind.means in
    let s = state c.args.self.now in
    let t = s.tape in
    let valid = table_valid c.args.self.now.table in
    let fits = good.fits in
    let r = c.args.r in
    let direction = c.args.direction.now in
    let pairs = c.as_mut_slice.result.now in
    let adjoint = c.as_mut_slice-2.result.now in
    let out = c.as_mut_slice-3.result.now in
    let pairs_long : length pairs ≡ 1152 = search rules in
    let adjoint_long : length adjoint ≡ 1152 = search rules in
    let out_long : length out ≡ 1152 = search rules in
    let whole : length c.bend.new.out ≡ c.args.rows.row.len = search rules in
    let count : c.control_count.result ≡ t.controls = c.control_count.ensures in
    let first = front_of _ _ c.bend.new.out _ c.truncate.new.self.items whole c.truncate.ensures.items ∙ ap (λ n. take n c.bend.new.out) count in
    let h = not_declined (refuse_bend t (length s.row) (length direction) (length pairs) (length adjoint) (length out) r) tt _
    (λ _. Bent o m t s.row direction r pairs c.bend.new.pairs adjoint c.bend.new.adjoint out c.bend.new.out) c.in_ok-bend.ensures in
    bend_reply o t _ m r _ _ _ first
    (sym (roomy_bend t valid r (length s.row) (length direction) (length pairs) (length adjoint) (length out) (omega arith) pairs_long adjoint_long out_long) ∙ h.0) h.1.bend
