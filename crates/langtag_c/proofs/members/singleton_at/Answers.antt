use Rattle.langtag_keyword.proofs.Common.{◌+◌, ◌<◌, ◌^◌, arith, length, map, take, slice_get, sym, ap, ◌∙◌, rules, sum_by, YieldsList-at, slice_get-map, ends_of, hyphenated, offsets_kept, extension_spelling, extension_text, extensions_left, option_map}
use Rattle.langtag_scan.proofs.Prelude.{option_map_id, serves_from_total, YieldsList-from_first, YieldsList-from_scan, nth_from_yields_List, take-map}
use Rattle.langtag_scan.specs.Grammar.{IsNormal}
use Rattle.langtag_c.proofs.PlaceLaws.{after, extensions_end, extensions_spelled, length-extensions, option_map-same, spans_after-at, width}
use Rattle.langtag_c.specs.declared.span.Span.{Span}
use Rattle.langtag_c.proofs.members.singleton_at.Goals as goal

pub nth-requires : goal.nth-requires
unfolding IsNormal
nth-requires c =
    let (r, spells) = (offsets_kept _ _ c.args.tag.now.kept_ends).normal in
    let texts = map extension_spelling r.extensions in
    let few : c.scan.result.state + sum_by width texts < 2 ^ 64 = omega (arith, extensions_end r, c.scan.ensures.state, ap (λ ends. ends.variants) (c.ends.ensures r spells), ap (λ ends. ends.extensions) (c.ends.ensures r spells)) in
    let walk = YieldsList-from_first extension_text extensions_left texts (c.iter.ensures.list r.extensions (extensions_spelled r _ spells.0 (c.extensions.ensures.part r spells))) in
    (tt, serves_from_total (YieldsList-at c.scan.ensures.source walk) width (λ n x q k. search rules) (λ n x le. search rules))

pub returns : goal.returns
returns c r spells =
    let texts = map extension_spelling r.extensions in
    let k = c.args.wanted in
    let end = (ends_of r).variants in
    let walk = YieldsList-from_first extension_text extensions_left texts (c.iter.ensures.list r.extensions (extensions_spelled r _ spells.0 (c.extensions.ensures.part r spells))) in
    sym (option_map_id c.nth.result) ∙ nth_from_yields_List c.nth.result c.nth.new.self k c.nth.ensures.ran
    (YieldsList-from_scan {C = Span} _ (λ end text. end + 1 + length text) (λ end text. after end 1) end
    (YieldsList-at c.scan.ensures.source walk) (c.scan.ensures.state ∙ ap (λ ends. ends.variants) (c.ends.ensures r spells)) c.scan.ensures.closure (λ b x o q d k. search rules))
    ∙ spans_after-at (λ _. 1) end texts k
    ∙ ap (option_map (λ _. after (end + length (hyphenated (take k texts))) 1)) (slice_get-map extension_spelling r.extensions k)
    ∙ option_map-same extension_spelling _ (slice_get r.extensions k)
    ∙ ap (λ n. option_map (λ _. after n 1) (slice_get r.extensions k))
    (ap (λ ts. end + length (hyphenated ts)) (take-map extension_spelling k r.extensions) ∙ sym (length-extensions r (take k r.extensions)))
