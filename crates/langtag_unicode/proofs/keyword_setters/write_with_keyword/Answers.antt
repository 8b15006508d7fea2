use Rattle.langtag_scan.proofs.Prelude.{arith, nat_tests}
use Rattle.langtag.specs.Text.{lang_tag_text}
use Rattle.langtag_unicode.proofs.KeywordSizes.{set_bounded}
use Rattle.langtag_unicode.proofs.keyword_setters.write_with_keyword.Goals as goal

pub returns-clause-set : goal.returns-clause-set
returns-clause-set c = λ room. c.write_edited.ensures.written (λ new is. let most = set_bounded c.args.key.now c.args.value.now (lang_tag_text c.args.tag) new is in omega (arith, most, room))

pub returns-clause-bounded : goal.returns-clause-bounded
returns-clause-bounded c = grind (arith, nat_tests, set_bounded c.args.key.now c.args.value.now (lang_tag_text c.args.tag), c.write_edited.ensures.written)
