use Rattle.std.proofs.Common.{arith, refl, ◌≡◌, ◌+◌, ◌<◌, [], ◌∷◌, ◌++◌, length, take, get_or, set, sym, ap, subst, ◌∙◌, replicate}
use Rattle.langtag_scan.specs.declared.finding.Finding.TheVariants as finding
use Rattle.langtag_scan.proofs.PositionLaws.{tracks_nothing, Tracks, viable_nothing, alive_viable, next_prefix, tracks_first, tracks_next, dead_next, text_ended}
use Rattle.langtag_scan.proofs.StateTables.{stands_nothing, stands_ending}
use Rattle.langtag_scan.specs.Grammar.{ends_at, IsFoundOf, position_of, is_dead, Stands}
use Rattle.langtag_scan.specs.declared.state.Ending.TheVariants.{NoTag, Normal, PrivateUse, Irregular}
use Rattle.langtag_scan.proofs.slice_reader.read_bytes.Goals as goal

pub loop-index-init : goal.loop-index-init
loop-index-init c =
    let t = c.args.bytes.now in
    let byte = get_or t 0 0 in
    let within : 0 < length t = omega (arith, c.if-len-eq0.false) in
    let next : byte ∷ [] ≡ take 1 t = next_prefix t 0 byte within refl in
    let after = c.in-Some.ensures [] c.start.ensures in
    let tracks = tracks_first t byte within next in
    record {
      within = omega (arith, within);
      stands = subst (λ q. Stands q c.in-Some.state.number) next after.1;
      tracks = rw c.new-marks.ensures tracks;
      viable = alive_viable (take 1 t) (replicate 6 0) tracks (ap (λ q. is_dead (position_of q)) (sym next) ∙ after.0);
    }

pub loop-index-preserved : goal.loop-index-preserved
loop-index-preserved c =
    let t = c.args.bytes.now in
    let i = c.loop-index.index in
    let byte = get_or t i 0 in
    let known = c.loop-index.invariant in
    let within : i < length t = omega (arith, c.loop-index-test.true) in
    let next = next_prefix t i byte within refl in
    let after = c.in-Some-after.ensures (take i t) known.stands in
    let stands = subst (λ q. Stands q c.in-Some-after.next.number) next after.1 in
    let part = c.part_before.ensures.part (take i t ++ byte ∷ []) after.1 in
    let tracks : Tracks (take (i + 1) t) c.set.new.self.places (position_of (take (i + 1) t)).begun =
    rw c.set.ensures (tracks_next t c.loop-index.marks.places i byte c.part_before.result within next part known.tracks) in
    record {
      within = omega (arith, within);
      stands = stands;
      tracks = tracks;
      viable = alive_viable (take (i + 1) t) c.set.new.self.places tracks (ap (λ q. is_dead (position_of q)) (sym next) ∙ after.0);
    }

pub returns-then-len-eq0 : goal.returns-then-len-eq0
returns-then-len-eq0 c =
    let t = c.args.bytes.now in
    let at : 0 ≡ length t = omega (arith, c.if-len-eq0.true) in
    text_ended t (replicate 6 0) 0 NoTag at tracks_nothing (stands_ending [] 0 (omega arith) stands_nothing)

pub returns-in_default : goal.returns-in_default
returns-in_default c =
    let t = c.args.bytes.now in
    (dead_next t (replicate 6 0) 0 (get_or t 0 0) (omega (arith, c.if-len-eq0.false)) refl viable_nothing tracks_nothing (c.in_default.ensures [] c.start.ensures)).0

pub returns-in_default-after : goal.returns-in_default-after
returns-in_default-after c =
    let t = c.args.bytes.now in
    let i = c.loop-index.index in
    let known = c.loop-index.invariant in
    (dead_next t c.loop-index.marks.places i (get_or t i 0) (omega (arith, c.loop-index-test.true)) refl known.viable known.tracks (c.in_default-after.ensures (take i t) known.stands)).0

pub returns-in-NoTag : goal.returns-in-NoTag
returns-in-NoTag c =
    let t = c.args.bytes.now in
    let known = c.loop-index.invariant in
    let at : c.loop-index.index ≡ length t = omega (arith, c.loop-index-test.false, known.within) in
    text_ended t c.loop-index.marks.places c.loop-index.index NoTag at known.tracks (sym c.in-NoTag.is ∙ c.ending.ensures.ending (take c.loop-index.index t) known.stands)

pub returns-in-PrivateUse : goal.returns-in-PrivateUse
returns-in-PrivateUse c =
    let t = c.args.bytes.now in
    let known = c.loop-index.invariant in
    let at : c.loop-index.index ≡ length t = omega (arith, c.loop-index-test.false, known.within) in
    text_ended t c.loop-index.marks.places c.loop-index.index PrivateUse at known.tracks (sym c.in-PrivateUse.is ∙ c.ending.ensures.ending (take c.loop-index.index t) known.stands)

pub returns-in-Irregular : goal.returns-in-Irregular
returns-in-Irregular c =
    let t = c.args.bytes.now in
    let known = c.loop-index.invariant in
    let at : c.loop-index.index ≡ length t = omega (arith, c.loop-index-test.false, known.within) in
    text_ended t c.loop-index.marks.places c.loop-index.index (Irregular c.in-Irregular.index) at known.tracks (sym c.in-Irregular.is ∙ c.ending.ensures.ending (take c.loop-index.index t) known.stands)

pub returns-in-Normal : goal.returns-in-Normal
returns-in-Normal c =
    let t = c.args.bytes.now in
    let known = c.loop-index.invariant in
    let at : c.loop-index.index ≡ length t = omega (arith, c.loop-index-test.false, known.within) in
    let ended = text_ended t c.loop-index.marks.places c.loop-index.index (Normal c.in-Normal.last) at known.tracks (sym c.in-Normal.is ∙ c.ending.ensures.ending (take c.loop-index.index t) known.stands) in
    let ends = c.ends.ensures ∙ ap (λ places. ends_at places (length t)) c.set-in-Normal.ensures in
    subst (λ e. IsFoundOf t (finding.Normal e)) (sym ends) ended
