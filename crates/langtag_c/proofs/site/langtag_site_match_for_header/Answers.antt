use Rattle.langtag_scan.proofs.Prelude.{None, Some, refl, sym, arith, nat_tests}
use Rattle.langtag_c.specs.Site.{current_tags_at}
use Rattle.langtag_c.proofs.ChoiceLaws.{choice_within, current_count, is_match_of}
use Rattle.langtag_c.proofs.site.langtag_site_match_for_header.Goals as goal

pub returns-in_default-clause-found : goal.returns-in_default-clause-found
returns-in_default-clause-found c = record { chosen = None; is = c.in_default.ensures.found; same = (sym (current_count c.args.bytes.now c.args.tags.now), refl) }

pub returns-clause-found : goal.returns-clause-found
returns-clause-found c = grind (arith, nat_tests, is_match_of c.args.header.now (current_tags_at c.args.bytes.now c.args.tags.now) c.in-Some.chosen c.range_at.result)

pub returns-clause-within : goal.returns-clause-within
returns-clause-within c =
    choice_within _ _ _ (Some c.in-Some.chosen.index) (current_count c.args.bytes.now c.args.tags.now) c.in-Some.ensures.choice
