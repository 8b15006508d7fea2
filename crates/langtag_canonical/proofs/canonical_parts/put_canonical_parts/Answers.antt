use Rattle.std.proofs.Common.{[], ◌∙◌, subst, rules}
use Rattle.langtag_text.specs.Output.{HasText}
use Rattle.langtag_text.proofs.Pushed.{record_joined}
use Rattle.langtag_canonical.specs.Canonical.{canonical_record}
use Rattle.langtag_canonical.proofs.TwiceLaws.{canonical_record_well_formed}
use Rattle.langtag_canonical.proofs.canonical_parts.put_canonical_parts.Goals as goal

pub returns : goal.returns
returns c = λ r spells.
    let has = subst (HasText _ c.push_parts.new.out) (record_joined (canonical_record r) (canonical_record_well_formed r spells.0)) (c.push_parts.ensures r spells _ [] c.new-out.ensures) in
    record { counted = c.len.ensures ∙ has.counted; written = λ fits. search (rules, has.same_buffer, has.written fits) }
