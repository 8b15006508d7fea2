use Rattle.std.proofs.Common.{◌<◌, ◌^◌, length, sym, subst, arith}
use Rattle.langtag.specs.Text.{lang_tag_text}
use Rattle.langtag.proofs.FormLaws.{rewritten}
use Rattle.langtag_likely.specs.Maximal.{IsMaximalForm}
use Rattle.langtag_likely.proofs.forms.write_maximized.Goals as goal

pub returns : goal.returns
returns c =
    let room : length (lang_tag_text c.args.tag) < 2 ^ 63 = omega arith in
    rewritten _ _ _ (λ new is. subst (IsMaximalForm (lang_tag_text c.args.tag)) (sym is) c.maximal_pieces.ensures.form)
    (c.write_pieces.ensures.written (omega (arith, c.maximal_pieces.ensures.short, room)))
