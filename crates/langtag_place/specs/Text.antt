-- The text of each type, as a list of bytes.
use Rattle.std.specs.Prelude.{ℕ, List, String, string_bytes}
use Rattle.langtag_scan.specs.Prelude.{Global}
use Rattle.langtag_place.specs.declared.script.Script.{Script}
use Rattle.langtag_place.specs.declared.script.ScriptBuf.{ScriptBuf}
use Rattle.langtag_place.specs.declared.region.Region.{Region}
use Rattle.langtag_place.specs.declared.region.RegionBuf.{RegionBuf}
use Rattle.langtag_place.specs.declared.variant.Variant.{Variant}
use Rattle.langtag_place.specs.declared.variant.VariantBuf.{VariantBuf}
use Rattle.langtag_place.specs.declared.variants.Variants.{Variants}
use Rattle.langtag_place.specs.declared.variants.VariantsBuf.{VariantsBuf}
use Rattle.langtag_place.specs.declared.variants_iter.VariantsIter.{VariantsIter}

abbrev pub script_text : Script → List ℕ
script_text script = script.text.0.now

-- the `String` itself, which the value owns
abbrev pub script_buf_string : ScriptBuf → String Global
script_buf_string script = script.text.0

abbrev pub script_buf_text : ScriptBuf → List ℕ
script_buf_text script = string_bytes (script_buf_string script)

abbrev pub region_text : Region → List ℕ
region_text region = region.text.0.now

-- the `String` itself, which the value owns
abbrev pub region_buf_string : RegionBuf → String Global
region_buf_string region = region.text.0

abbrev pub region_buf_text : RegionBuf → List ℕ
region_buf_text region = string_bytes (region_buf_string region)

abbrev pub variant_text : Variant → List ℕ
variant_text variant = variant.text.0.now

-- the `String` itself, which the value owns
abbrev pub variant_buf_string : VariantBuf → String Global
variant_buf_string variant = variant.text.0

abbrev pub variant_buf_text : VariantBuf → List ℕ
variant_buf_text variant = string_bytes (variant_buf_string variant)

abbrev pub variants_text : Variants → List ℕ
variants_text variants = variants.text.0.now

-- the `String` itself, which the value owns
abbrev pub variants_buf_string : VariantsBuf → String Global
variants_buf_string variants = variants.text.0

abbrev pub variants_buf_text : VariantsBuf → List ℕ
variants_buf_text variants = string_bytes (variants_buf_string variants)

-- the variants that the iterator will still return
abbrev pub variants_left : VariantsIter → List (List ℕ)
variants_left walk = walk.rest
