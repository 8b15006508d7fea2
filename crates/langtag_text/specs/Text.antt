-- The text that an `InRecommendedCase` displays.
use Rattle.std.specs.Prelude.{ℕ, List}
use Rattle.langtag_text.specs.RecommendedCase.{recommended_text}
use Rattle.langtag_text.specs.declared.in_recommended_case.InRecommendedCase.{InRecommendedCase}

abbrev pub in_recommended_case_text : InRecommendedCase → List ℕ
in_recommended_case_text shown = recommended_text shown.text.now
