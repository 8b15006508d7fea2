-- The types of this crate compare and hash by their texts, ignoring the case of ASCII letters.
use Rattle.langtag_scan.specs.Grammar.{ComparesByCase}
use Rattle.langtag_place.specs.contracts.script.ScriptHash.TheImpl as script_hash
use Rattle.langtag_place.specs.contracts.script.ScriptOrd.TheImpl as script_order
use Rattle.langtag_place.specs.contracts.script.ScriptPartialEq.TheImpl as script_equality
use Rattle.langtag_place.specs.contracts.script.ScriptBufHash.TheImpl as script_buf_hash
use Rattle.langtag_place.specs.contracts.script.ScriptBufOrd.TheImpl as script_buf_order
use Rattle.langtag_place.specs.contracts.script.ScriptBufPartialEq.TheImpl as script_buf_equality
use Rattle.langtag_place.specs.contracts.region.RegionHash.TheImpl as region_hash
use Rattle.langtag_place.specs.contracts.region.RegionOrd.TheImpl as region_order
use Rattle.langtag_place.specs.contracts.region.RegionPartialEq.TheImpl as region_equality
use Rattle.langtag_place.specs.contracts.region.RegionBufHash.TheImpl as region_buf_hash
use Rattle.langtag_place.specs.contracts.region.RegionBufOrd.TheImpl as region_buf_order
use Rattle.langtag_place.specs.contracts.region.RegionBufPartialEq.TheImpl as region_buf_equality
use Rattle.langtag_place.specs.contracts.variant.VariantHash.TheImpl as variant_hash
use Rattle.langtag_place.specs.contracts.variant.VariantOrd.TheImpl as variant_order
use Rattle.langtag_place.specs.contracts.variant.VariantPartialEq.TheImpl as variant_equality
use Rattle.langtag_place.specs.contracts.variant.VariantBufHash.TheImpl as variant_buf_hash
use Rattle.langtag_place.specs.contracts.variant.VariantBufOrd.TheImpl as variant_buf_order
use Rattle.langtag_place.specs.contracts.variant.VariantBufPartialEq.TheImpl as variant_buf_equality
use Rattle.langtag_place.specs.contracts.variants.VariantsHash.TheImpl as variants_hash
use Rattle.langtag_place.specs.contracts.variants.VariantsOrd.TheImpl as variants_order
use Rattle.langtag_place.specs.contracts.variants.VariantsPartialEq.TheImpl as variants_equality
use Rattle.langtag_place.specs.contracts.variants.VariantsBufHash.TheImpl as variants_buf_hash
use Rattle.langtag_place.specs.contracts.variants.VariantsBufOrd.TheImpl as variants_buf_order
use Rattle.langtag_place.specs.contracts.variants.VariantsBufPartialEq.TheImpl as variants_buf_equality
use Rattle.langtag_place.specs.Text.{script_text, script_buf_text, region_text, region_buf_text, variant_text, variant_buf_text, variants_text, variants_buf_text}

abbrev pub ScriptsCompareByCase : Type 0
ScriptsCompareByCase =
    ComparesByCase script_text script_equality.eq-value.it script_order.cmp-value.it script_hash.hash_input-value.it

abbrev pub ScriptBufsCompareByCase : Type 0
ScriptBufsCompareByCase =
    ComparesByCase script_buf_text script_buf_equality.eq-value.it script_buf_order.cmp-value.it script_buf_hash.hash_input-value.it

abbrev pub RegionsCompareByCase : Type 0
RegionsCompareByCase =
    ComparesByCase region_text region_equality.eq-value.it region_order.cmp-value.it region_hash.hash_input-value.it

abbrev pub RegionBufsCompareByCase : Type 0
RegionBufsCompareByCase =
    ComparesByCase region_buf_text region_buf_equality.eq-value.it region_buf_order.cmp-value.it region_buf_hash.hash_input-value.it

abbrev pub VariantsCompareByCase : Type 0
VariantsCompareByCase =
    ComparesByCase variant_text variant_equality.eq-value.it variant_order.cmp-value.it variant_hash.hash_input-value.it

abbrev pub VariantBufsCompareByCase : Type 0
VariantBufsCompareByCase =
    ComparesByCase variant_buf_text variant_buf_equality.eq-value.it variant_buf_order.cmp-value.it variant_buf_hash.hash_input-value.it

abbrev pub VariantListsCompareByCase : Type 0
VariantListsCompareByCase =
    ComparesByCase variants_text variants_equality.eq-value.it variants_order.cmp-value.it variants_hash.hash_input-value.it

abbrev pub VariantsBufsCompareByCase : Type 0
VariantsBufsCompareByCase =
    ComparesByCase variants_buf_text variants_buf_equality.eq-value.it variants_buf_order.cmp-value.it variants_buf_hash.hash_input-value.it
