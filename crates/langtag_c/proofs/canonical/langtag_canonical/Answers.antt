use Rattle.langtag_scan.proofs.Prelude.{subst, sym}
use Rattle.langtag_scan.specs.Grammar.{IsTag}
use Rattle.langtag_c.proofs.WrittenTexts.{canonical_written}
use Rattle.langtag_c.proofs.canonical.langtag_canonical.Goals as goal

pub returns-in-Some-clause-no_tag : goal.returns-in-Some-clause-no_tag
returns-in-Some-clause-no_tag c =
    let (same, tag) = c.in-Some.ensures in (
      λ zero _. canonical_written _ _ _ c.write_canonical.result c.write_canonical.ensures.canonical (subst IsTag (sym same) tag) zero,
      λ none. absurd (none tag),
    )
