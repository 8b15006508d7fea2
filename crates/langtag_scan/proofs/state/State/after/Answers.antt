use Rattle.std.proofs.Common.{arith, ◌<◌, [], ◌∷◌, ◌++◌}
use Rattle.langtag_scan.proofs.StateTables.{stands_push, stands_after, class_within}
use Rattle.langtag_scan.proofs.state.State.after.Goals as goal

pub after_class-requires : goal.after_class-requires
after_class-requires c = class_within c.args.byte (omega arith)

pub returns : goal.returns
returns c = λ q stands.
    let within : c.args.byte < 256 = omega arith in
    stands_after c.after_class.result _ (q ++ c.args.byte ∷ []) c.after_class.ensures (stands_push q c.args.self.number c.args.self.within stands c.args.byte within)
