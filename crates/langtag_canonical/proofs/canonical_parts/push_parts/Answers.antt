use Rattle.std.proofs.Common.{sym, ap}
use Rattle.langtag_scan.specs.Record.{one_flat}
use Rattle.langtag_canonical.specs.Canonical.{canonical_record, canonical_region, canonical_variants}
use Rattle.langtag.proofs.PartRules.{language_spelled}
use Rattle.langtag.proofs.PartRules.{variants_listed}
use Rattle.langtag_text.proofs.Pushed.{pushes_same, record_pushed}
use Rattle.langtag_canonical.proofs.canonical_parts.push_parts.Goals as goal

pub returns : goal.returns
unfolding canonical_record
returns c = λ r spells.
    record_pushed (canonical_record r) _ _ _ _ _ _ _
    (c.push_canonical_language.ensures r.primary r.extended (language_spelled r _ spells.0 (c.language.ensures.part r spells)))
    (pushes_same _ _ _ _ (ap one_flat (c.script.ensures.part r spells)) c.push_script.ensures)
    (pushes_same _ _ _ _ (ap (λ g. one_flat (canonical_region g)) (c.region.ensures.part r spells)) c.push_region.ensures)
    (pushes_same _ _ _ _ (ap canonical_variants (variants_listed r _ spells.0 (c.variants.ensures.part r spells))) c.push_variants.ensures)
    (c.push_ordered.ensures r.extensions (record { members = spells.0.extensions; joined = sym (c.extensions.ensures.part r spells) }))
    (c.push_private_use.ensures r.private_use (c.private_use.ensures.part r spells))
