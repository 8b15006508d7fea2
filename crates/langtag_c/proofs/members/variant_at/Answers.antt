use Rattle.langtag_keyword.proofs.Common.{◌+◌, ◌<◌, ◌^◌, arith, length, take, slice_get, sym, ap, ◌∙◌, rules, sum_by, YieldsList-at, ends_of, offsets_kept, option_map}
use Rattle.langtag_scan.proofs.Prelude.{option_map_id, serves_from_total, YieldsList-from_first, YieldsList-from_scan, nth_from_yields_List}
use Rattle.langtag_scan.specs.Grammar.{IsNormal}
use Rattle.langtag_place.specs.Text.{variant_text, variants_left}
use Rattle.langtag_c.proofs.PlaceLaws.{after, length-variants, spans_after-at, variants_end, width}
use Rattle.langtag.proofs.PartRules.{variants_listed}
use Rattle.langtag_c.specs.declared.span.Span.{Span}
use Rattle.langtag_c.proofs.members.variant_at.Goals as goal

pub nth-requires : goal.nth-requires
unfolding IsNormal
nth-requires c =
    let (r, spells) = (offsets_kept _ _ c.args.tag.now.kept_ends).normal in
    let few : c.scan.result.state + sum_by width r.variants < 2 ^ 64 = omega (arith, variants_end r, c.scan.ensures.state, ap (λ ends. ends.region) (c.ends.ensures r spells), ap (λ ends. ends.variants) (c.ends.ensures r spells)) in
    let walk = YieldsList-from_first variant_text variants_left r.variants (c.iter.ensures.list ∙ variants_listed r _ spells.0 (c.variants.ensures.part r spells)) in
    (tt, serves_from_total (YieldsList-at c.scan.ensures.source walk) width (λ n x q k. search rules) (λ n x le. search rules))

pub returns : goal.returns
returns c r spells =
    let walk = YieldsList-from_first variant_text variants_left r.variants (c.iter.ensures.list ∙ variants_listed r _ spells.0 (c.variants.ensures.part r spells)) in
    sym (option_map_id c.nth.result) ∙ nth_from_yields_List c.nth.result c.nth.new.self c.args.wanted c.nth.ensures.ran
    (YieldsList-from_scan {C = Span} _ (λ end text. end + 1 + length text) (λ end text. after end (length text)) (ends_of r).region
    (YieldsList-at c.scan.ensures.source walk) (c.scan.ensures.state ∙ ap (λ ends. ends.region) (c.ends.ensures r spells)) c.scan.ensures.closure (λ b x o q d k. search rules))
    ∙ spans_after-at length (ends_of r).region r.variants c.args.wanted
    ∙ ap (λ n. option_map (λ text. after n (length text)) (slice_get r.variants c.args.wanted)) (sym (length-variants r (take c.args.wanted r.variants)))
