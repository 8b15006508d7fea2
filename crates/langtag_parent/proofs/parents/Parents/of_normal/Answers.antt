use Rattle.std.proofs.Common.{◌++◌, sym, ap, ◌∙◌}
use Rattle.langtag.specs.Definitions.{base_record}
use Rattle.langtag_likely.specs.Marked.{as_read}
use Rattle.langtag_parent.specs.Chain.{as_written}
use Rattle.langtag_parent.specs.Parent.{short}
use Rattle.langtag_parent.proofs.Lines.{chain_is}
use Rattle.langtag_parent.proofs.Texts.{base_well, read_rest, read_variants, rest_is, variants_are}
use Rattle.langtag_parent.proofs.parents.Parents.of_normal.Goals as goal

pub returns : goal.returns
returns c = λ r spells.
    let whole = c.of-base.ensures r spells in
    let variants = c.after_region.ensures (base_record r) (base_well r spells.0, sym (c.base.ensures r spells)) ∙ rest_is (base_record r) ∙ variants_are r ∙ sym (read_variants r) in
    let rest = c.after_region-rest.ensures r spells ∙ rest_is r ∙ sym (read_rest r) in
    let chain = chain_is (as_read r) _ _ _ _ _ c.given_form.ensures whole variants rest (c.short.ensures ∙ ap short whole) in
    rw (c.as_written.ensures r spells) (ap (λ others. as_written r ++ others) chain)
