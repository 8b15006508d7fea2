use Rattle.std.proofs.Common.{◌≡◌, ◌&&◌, ℕ, ◌+◌, false, get_or, length, nat_lt}
use Rattle.langtag_choice.specs.Remaining.{without_all}
use Rattle.langtag_choice.specs.Found.{is_tag_at}
use Rattle.langtag_choice.proofs.by_tags.not_chosen.Given as goal

abbrev pub invariant-loop-offset : goal.invariant-loop-offset
invariant-loop-offset g l = record {
  long : length l.free ≡ 64;
  flags : (k : ℕ) → get_or l.free k false ≡ (nat_lt k l.offset && is_tag_at (without_all (g.T.TagList.texts l.tags) l.chosen) (l.start + k));
}
