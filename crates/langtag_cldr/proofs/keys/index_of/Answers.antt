use Rattle.langtag_scan.proofs.Prelude.{◌∙◌, ap, rules, answers_always}
use Rattle.langtag_cldr.specs.Numbers.{first_index}
use Rattle.langtag_cldr.proofs.TableRows.{index_searched}
use Rattle.langtag_cldr.proofs.keys.index_of.Goals as goal

-- the closure gives the key itself
pub returns-clause-found : goal.returns-clause-found
returns-clause-found c =
    let position = c.binary_search_by_key.ensures.position (λ key. key) (answers_always _ _ _ (λ f a r g called. search rules)) in
    c.ok.ensures.value ∙ index_searched c.args.keys.now c.folded_number.result _ c.requires.climbs position
    ∙ ap (first_index c.args.keys.now) c.folded_number.ensures.number
