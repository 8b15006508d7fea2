use Rattle.langtag_scan.proofs.Prelude.{arith, nat_tests}
use Rattle.langtag.specs.Text.{lang_tag_text}
use Rattle.langtag_unicode.proofs.KeywordSizes.{removed_bounded}
use Rattle.langtag_unicode.proofs.keyword_setters.write_without_keyword.Goals as goal

pub returns-clause-removed : goal.returns-clause-removed
returns-clause-removed c = c.write_edited.ensures.written (λ new is. let most = removed_bounded c.args.key.now (lang_tag_text c.args.tag) new is in omega (arith, most))

pub returns-clause-bounded : goal.returns-clause-bounded
returns-clause-bounded c = grind (arith, nat_tests, removed_bounded c.args.key.now (lang_tag_text c.args.tag), c.write_edited.ensures.written)
