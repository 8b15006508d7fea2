-- The members of a language are the subtags of its text.
use Rattle.langtag_scan.proofs.Prelude.{◌≡◌, ℕ, List, ◌∷◌, drop, Option, IfSome, sym, ap, ◌∙◌, arith, common_steps}
use Rattle.langtag_scan.specs.Subtags.{subtags}
use Rattle.langtag_language.specs.declared.language_extension.LanguageExtension.{LanguageExtension}
use Rattle.langtag_language.specs.Language.{EachLanguageSpelling, SpellsLanguageExtension}
use Rattle.langtag_language.specs.Text.{language_extension_text, extension_list}
use Rattle.langtag_language.proofs.Rules.{subtags-language, SpellsLanguageExtension-from_test}

pub members_spelled :
    (text first : List ℕ) (others : List (List ℕ)) → subtags text ≡ first ∷ others →
    EachLanguageSpelling text (λ primary extended. (first ≡ primary) × (others ≡ extended))
members_spelled text first others list primary extended spells = let same = sym list ∙ subtags-language primary extended text spells in (cc, cc)

pub others_spelled :
    (text : List ℕ) (others : List (List ℕ)) → others ≡ drop 1 (subtags text) →
    EachLanguageSpelling text (λ primary extended. others ≡ extended)
others_spelled text others list primary extended spells = list ∙ ap (drop 1) (subtags-language primary extended text spells)

pub present_extension :
    (extension : Option LanguageExtension) (extended : List (List ℕ)) → extension_list extension ≡ extended →
    IfSome extension (λ e. SpellsLanguageExtension extended (language_extension_text e))
present_extension extension extended same = grind (arith, common_steps, SpellsLanguageExtension-from_test)
