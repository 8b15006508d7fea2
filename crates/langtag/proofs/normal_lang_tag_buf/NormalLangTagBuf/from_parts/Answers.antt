use Rattle.langtag_scan.proofs.Prelude.{arith, common_steps}
use Rattle.langtag.proofs.EditLaws.{is_region-member, is_script-member, made_of_parts, short_region, short_script}
use Rattle.langtag.proofs.normal_lang_tag_buf.NormalLangTagBuf.from_parts.Goals as goal

pub ends-ends-requires : goal.ends-ends-requires
ends-ends-requires c = grind (arith, common_steps, short_script, is_script-member, short_region, is_region-member)

pub with_ends-requires : goal.with_ends-requires
with_ends-requires c =
    let language = c.as_str-language.ensures.same_text in
    let whole = rw (language, c.as_str-script.ensures, c.as_str-region.ensures) at c.in_ok-whole.ensures in
    let some = rw language at c.as_str-language.ensures.in_class in
    rw (c.ends-ends.ensures, c.length_with_hyphen.ensures, c.length_with_hyphen-2.ensures, c.as_str-script.ensures, c.as_str-region.ensures, language)
    (made_of_parts some.0 some.1 _ _ _ _ some.2 (is_script-member c.args.script) (is_region-member c.args.region) whole).kept

pub returns : goal.returns
returns c primary extended spelled =
    let whole = rw (c.as_str-language.ensures.same_text, c.as_str-script.ensures, c.as_str-region.ensures) at c.in_ok-whole.ensures in
    rw c.with_ends.ensures (made_of_parts primary extended _ _ _ _ spelled (is_script-member c.args.script) (is_region-member c.args.region) whole).spells
