use Rattle.langtag_keyword.proofs.Common.{sym, subst, extensions_record}
use Rattle.langtag.proofs.KeptFound.{found_kept}
use Rattle.langtag.specs.Definitions.{lang_tag_text, IsForm}
use Rattle.langtag.proofs.FormLaws.{form_is_tag, one_form}
use Rattle.langtag_unicode.proofs.FormsOfTags.{extensions_form-alike, extensions_settled}
use Rattle.langtag_keyword.proofs.FormRecords.{form_well_formed}
use Rattle.langtag_unicode.proofs.form.extensions_form.Goals as goal

pub tag_of-requires : goal.tag_of-requires
tag_of-requires c = form_is_tag extensions_record form_well_formed _ _ (found_kept _ _ c.args.tag.kept_found).tag c.in_ok-form_bytes.ensures

pub returns : goal.returns
returns c =
    let old = lang_tag_text c.args.tag in
    let is = subst (IsForm extensions_record old) (sym c.tag_of.ensures) c.in_ok-form_bytes.ensures in
    record {
      form = is;
      one = λ other is_other. one_form extensions_record old other _ is_other is;
      settled = extensions_settled old _ is;
      alike = extensions_form-alike old _ is;
    }
