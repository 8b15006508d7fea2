use Rattle.std.proofs.Common.{arith, refl, ◌≡◌, ◌+◌, ◌<◌, [], ◌∷◌, ◌++◌, length, take, get_or, set, sym, ap, subst, ◌∙◌, replicate}
use Rattle.langtag_scan.specs.declared.finding.Finding.TheVariants as finding
use Rattle.langtag_scan.proofs.PositionLaws.{tracks_nothing, Tracks, viable_nothing, alive_viable, next_prefix, tracks_first, tracks_next, dead_next, text_ended, whole_stop}
use Rattle.langtag_scan.proofs.TagLaws.{viable_whole}
use Rattle.langtag_scan.proofs.StateTables.{stands_nothing, stands_ending}
use Rattle.langtag_scan.specs.Grammar.{ends_at, IsFoundOf, position_of, is_dead, Stands}
use Rattle.langtag_scan.specs.declared.state.Ending.TheVariants.{NoTag, Normal, PrivateUse, Irregular}
use Rattle.langtag_scan.proofs.recogniser.read.Goals as goal

pub loop-index-init : goal.loop-index-init
loop-index-init g c =
    let t = g.S.ByteSource.bytes c.args.source.now in
    let within : 0 < length t = omega (arith, c.len-len.ensures, c.if-len-eq0.false) in
    let next : c.byte.result ∷ [] ≡ take 1 t = next_prefix t 0 c.byte.result within c.byte.ensures.value in
    let after = c.in-Some.ensures [] c.start.ensures in
    let tracks = tracks_first t c.byte.result within next in
    record {
      bytes = c.byte.ensures.bytes;
      reads = omega arith;
      reach = omega arith;
      within = omega arith;
      stands = subst (λ q. Stands q c.in-Some.state.number) next after.1;
      tracks = rw c.new-marks.ensures tracks;
      viable = alive_viable (take 1 t) (replicate 6 0) tracks (ap (λ q. is_dead (position_of q)) (sym next) ∙ after.0);
    }

pub loop-index-preserved : goal.loop-index-preserved
loop-index-preserved g c =
    let t = g.S.ByteSource.bytes c.args.source.now in
    let i = c.loop-index.index in
    let byte = c.byte-in-loop-index in
    let known = c.loop-index.invariant in
    let within : i < length t = omega (arith, c.len-len.ensures) in
    let next = next_prefix t i byte.result within (byte.ensures.value ∙ ap (λ l. get_or l i 0) known.bytes) in
    let after = c.in-Some-after.ensures (take i t) known.stands in
    let stands = subst (λ q. Stands q c.in-Some-after.next.number) next after.1 in
    let part = c.part_before.ensures.part (take i t ++ byte.result ∷ []) after.1 in
    let tracks : Tracks (take (i + 1) t) c.set.new.self.places (position_of (take (i + 1) t)).begun =
    rw c.set.ensures (tracks_next t c.loop-index.marks.places i byte.result c.part_before.result within next part known.tracks) in
    record {
      bytes = byte.ensures.bytes ∙ known.bytes;
      reads = omega arith;
      reach = omega arith;
      within = omega arith;
      stands = stands;
      tracks = tracks;
      viable = alive_viable (take (i + 1) t) c.set.new.self.places tracks (ap (λ q. is_dead (position_of q)) (sym next) ∙ after.0);
    }

pub returns-then-len-eq0 : goal.returns-then-len-eq0
returns-then-len-eq0 g c =
    let t = g.S.ByteSource.bytes c.args.source.now in
    let at : 0 ≡ length t = omega (arith, c.len-len.ensures, c.if-len-eq0.true) in
    let none = text_ended t (replicate 6 0) 0 NoTag at tracks_nothing (stands_ending [] 0 (omega arith) stands_nothing) in
    record { found = none; viable = viable_whole t 0 0 at refl viable_nothing; bytes = refl; reads = (0, whole_stop t 0 at viable_nothing, omega arith, omega arith) }

pub returns-in_default : goal.returns-in_default
returns-in_default g c =
    let t = g.S.ByteSource.bytes c.args.source.now in
    let dead = dead_next t (replicate 6 0) 0 c.byte.result (omega (arith, c.len-len.ensures, c.if-len-eq0.false)) c.byte.ensures.value viable_nothing tracks_nothing (c.in_default.ensures [] c.start.ensures) in
    record { found = dead.0; viable = dead.1; bytes = c.byte.ensures.bytes; reads = (1, dead.2, omega arith, omega arith) }

pub returns-in_default-after : goal.returns-in_default-after
returns-in_default-after g c =
    let t = g.S.ByteSource.bytes c.args.source.now in
    let i = c.loop-index.index in
    let byte = c.byte-in-loop-index in
    let known = c.loop-index.invariant in
    let dead = dead_next t c.loop-index.marks.places i byte.result (omega (arith, c.len-len.ensures)) (byte.ensures.value ∙ ap (λ l. get_or l i 0) known.bytes) known.viable known.tracks (c.in_default-after.ensures (take i t) known.stands) in
    record { found = dead.0; viable = dead.1; bytes = byte.ensures.bytes ∙ known.bytes; reads = (i + 1, dead.2, omega arith, omega arith) }

pub returns-in-NoTag : goal.returns-in-NoTag
returns-in-NoTag g c =
    let t = g.S.ByteSource.bytes c.args.source.now in
    let known = c.loop-index.invariant in
    let at : c.loop-index.index ≡ length t = omega (arith, c.len-len.ensures, known.within) in
    let ended = text_ended t c.loop-index.marks.places c.loop-index.index NoTag at known.tracks (sym c.in-NoTag.is ∙ c.ending.ensures.ending (take c.loop-index.index t) known.stands) in
    record { found = ended; viable = viable_whole t c.loop-index.index c.len-len.result at (omega (arith, at, c.len-len.ensures)) known.viable; bytes = known.bytes; reads = (c.loop-index.index, whole_stop t c.loop-index.index at known.viable, known.reads, known.reach) }

pub returns-in-PrivateUse : goal.returns-in-PrivateUse
returns-in-PrivateUse g c =
    let t = g.S.ByteSource.bytes c.args.source.now in
    let known = c.loop-index.invariant in
    let at : c.loop-index.index ≡ length t = omega (arith, c.len-len.ensures, known.within) in
    let ended = text_ended t c.loop-index.marks.places c.loop-index.index PrivateUse at known.tracks (sym c.in-PrivateUse.is ∙ c.ending.ensures.ending (take c.loop-index.index t) known.stands) in
    record { found = ended; viable = viable_whole t c.loop-index.index (length t) at (sym at) known.viable; bytes = known.bytes; reads = (c.loop-index.index, whole_stop t c.loop-index.index at known.viable, known.reads, known.reach) }

pub returns-in-Irregular : goal.returns-in-Irregular
returns-in-Irregular g c =
    let t = g.S.ByteSource.bytes c.args.source.now in
    let known = c.loop-index.invariant in
    let at : c.loop-index.index ≡ length t = omega (arith, c.len-len.ensures, known.within) in
    let ended = text_ended t c.loop-index.marks.places c.loop-index.index (Irregular c.in-Irregular.index) at known.tracks (sym c.in-Irregular.is ∙ c.ending.ensures.ending (take c.loop-index.index t) known.stands) in
    record { found = ended; viable = viable_whole t c.loop-index.index (length t) at (sym at) known.viable; bytes = known.bytes; reads = (c.loop-index.index, whole_stop t c.loop-index.index at known.viable, known.reads, known.reach) }

pub returns-in-Normal : goal.returns-in-Normal
returns-in-Normal g c =
    let t = g.S.ByteSource.bytes c.args.source.now in
    let known = c.loop-index.invariant in
    let at : c.loop-index.index ≡ length t = omega (arith, c.len-len.ensures, known.within) in
    let ended = text_ended t c.loop-index.marks.places c.loop-index.index (Normal c.in-Normal.last) at known.tracks (sym c.in-Normal.is ∙ c.ending.ensures.ending (take c.loop-index.index t) known.stands) in
    let ends = c.ends.ensures ∙ ap (λ places. ends_at places c.len-len.result) c.set-in-Normal.ensures ∙ ap (λ n. ends_at (set c.loop-index.marks.places c.in-Normal.last n) n) c.len-len.ensures in
    let found = subst (λ e. IsFoundOf t (finding.Normal e)) (sym ends) ended in
    record { found = found; viable = viable_whole t c.loop-index.index (length t) at (sym at) known.viable; bytes = known.bytes; reads = (c.loop-index.index, whole_stop t c.loop-index.index at known.viable, known.reads, known.reach) }
