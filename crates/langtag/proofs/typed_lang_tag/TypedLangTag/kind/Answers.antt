use Rattle.std.proofs.lemmas.Grind.{common_steps}
use Rattle.std.proofs.Common.{arith}
use Rattle.langtag.specs.Compared.{TypedLangTagsCompareByKind}
use Rattle.langtag.proofs.OrderLaws.{equal}
use Rattle.langtag.proofs.typed_lang_tag.TypedLangTag.kind.Goals as goal

by_kind : TypedLangTagsCompareByKind
by_kind a b = grind (arith, common_steps, equal)

pub returns-in-Normal-clause-compared : goal.returns-in-Normal-clause-compared
returns-in-Normal-clause-compared c = by_kind

pub returns-in-PrivateUse-clause-compared : goal.returns-in-PrivateUse-clause-compared
returns-in-PrivateUse-clause-compared c = by_kind

pub returns-in-Grandfathered-clause-compared : goal.returns-in-Grandfathered-clause-compared
returns-in-Grandfathered-clause-compared c = by_kind
