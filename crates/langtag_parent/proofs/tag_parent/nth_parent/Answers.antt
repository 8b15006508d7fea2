use Rattle.std.proofs.lemmas.Iterator.Consumers.{YieldsList-from_first, nth_from_yields_List}
use Rattle.langtag.specs.Definitions.{lang_tag_text}
use Rattle.langtag_parent.specs.Chain.{parent_text, parents_left}
use Rattle.langtag_parent.proofs.Chains.{one_chain}
use Rattle.langtag_parent.proofs.tag_parent.nth_parent.Goals as goal

pub returns : goal.returns
returns c = λ chain is.
    nth_from_yields_List c.nth.result c.nth.new.self c.args.index c.nth.ensures.ran
    (YieldsList-from_first parent_text parents_left chain (one_chain (lang_tag_text c.args.tag) _ _ c.new.ensures.chain is))
