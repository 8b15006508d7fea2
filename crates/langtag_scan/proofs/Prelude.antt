-- The words of std that the proofs of this crate, and of those above it, use: a page imports them from here in one line.
pub use Rattle.std.proofs.Common.{◌≡◌, arith, ◌∙◌, sym, ap, length, refl, [], List, ℕ, ◌∷◌, true, false, subst, Some, ◌++◌, ◌≤◌, Bool, ◌+◌, map, ◌<◌, None, take, Option, drop, ◌&&◌, cond, get_or, option_map, ◌==◌, rules, ◌-◌, not, inl, append-nil, ◌||◌, IsTrue, append_assoc, unwrap_or, inr, suc, zero, codes, ◌⊎◌, find, slice_get, length-append, leb, ltb, ◌*◌, eqb, fold, nat_lt, ◌↔◌, is_some, IfSome, eqb-true, ◌%◌, MatchOption, set, ◌≢◌, Bor, IsAscii, slice_index, tests, ◌/◌, All, IsUtf8, replicate, true≢false, min, Err, Greater, Less, Ok, Ordering, encode_utf8, max, reverse, slice_index_or, Equal, MutBor, add-one, count_by}
pub use Prim.Native.Nat.{◌^◌}
pub use Rattle.std.proofs.Math.Bool.{or-true, and-true, or-false, and-false}
pub use Rattle.std.proofs.Math.Facts.{Fits-of_lt}
pub use Rattle.std.proofs.Math.Logic.{∥∥₁_elim}
pub use Rattle.std.proofs.Math.Seq.{take-append_seam, take-length, drop-append_seam, drop-cons, get_or-append_seam}
pub use Rattle.std.proofs.Props.{props}
pub use Rattle.std.proofs.lemmas.Bool.{and_parts, false≢true, false_from_ne_true, both_ways, eq-eqb, cases_lt, ltb-true, leb-true, ne_eqb, not-true, or_cases, le-leb, or_right, and_from, or_parts, lt-ltb, agree_below_at, ltb-false, agree_below}
pub use Rattle.std.proofs.lemmas.Bool.Decides.{nat_tests, eqb_tells}
pub use Rattle.std.proofs.lemmas.Cmp.{nat_list_cmp_total}
pub use Rattle.std.proofs.lemmas.Grind.{common_steps, flat_map-append, get_or-set_at}
pub use Rattle.std.proofs.lemmas.Iterator.Adapters.{option_map_id, serves_from_total}
pub use Rattle.std.proofs.lemmas.Iterator.Consumers.{YieldsList-from_first, YieldsList-at, nth_from_yields_List, YieldsList-end, YieldsList-from_scan, YieldsList-turn}
pub use Rattle.std.proofs.lemmas.Iterator.Search.{all_from_yields_List}
pub use Rattle.std.proofs.lemmas.Iterator.Splits.{YieldsList-from_slice_split}
pub use Rattle.std.proofs.lemmas.List.{length-map, take_all, map-append, drop_all, nil_from_length, at_drop_more, get_or-map, length-take, length-drop, take-append-drop, length_push, take_more, drop-drop, drop-map, length-set, take_at, get_or-take, take-map, take-take, get_or-drop, get_or-replicate, get_or-set_other, drop-take, drop_more, get_or_append_left, reverse-append, take-append-le, take_more_set, drop-append-le, drop-set-lt, drop_at, get_or-append-add, get_or_past, length-replicate, length-take-le}
pub use Rattle.std.proofs.lemmas.List.Elements.{All-cons, All-from_recursion, All-nil, All-tail, filter-append, All-head, filter_agree}
pub use Rattle.std.proofs.lemmas.List.Folds.{list_any-append, list_all-append, list_any_at, fold-map, list_all_at, Any-from_list_any, list_any_none}
pub use Rattle.std.proofs.lemmas.List.Quantifiers.{position-Some}
pub use Rattle.std.proofs.lemmas.List.Sorted.{searched, IsNonDecreasingBy-from_sort, answers_always, length_permutation, list_any-IsPermutation}
pub use Rattle.std.proofs.lemmas.List.Splits.{length-slice_split, slice_split_none, join_with_byte-slice_split, slice_split_at, slice_split-cons_no, slice_split-cons_yes, slice_split_first}
pub use Rattle.std.proofs.lemmas.List.Sums.{count_by-le-length, fails_before_first, fold-append, prefix_len-le-length, sum_by-append, length-filter, sum_by-cons, take_while-cons}
pub use Rattle.std.proofs.lemmas.Map.Text.{is_eq-slice_cmp}
pub use Rattle.std.proofs.lemmas.Option.{slice_get-map, get_or_from_slice_get, slice_get_within, slice_get_read, slice_get-get_or, none-some}
pub use Rattle.std.proofs.lemmas.Result.{IfOk-weaker, on_ok_weaker}
pub use Rattle.std.proofs.lemmas.Slice.Eq.{bytes_eq-Decides}
pub use Rattle.std.proofs.lemmas.Str.{IsUtf8-from_ascii, IsCharBoundary-after_ascii, encode_ascii, IsAscii-append, IsCharBoundary-from_ascii}
pub use Rattle.std.proofs.lemmas.Str.Ascii.{IsAscii-cons, IsAscii-nil, lowercase-uppercase, lowercase_ascii}
pub use Rattle.std.specs.Char.{is_ascii_alphabetic, is_ascii_digit, is_ascii, to_ascii_uppercase}
pub use Rattle.std.specs.Cmp.Lexicographic.{bytes_decides, slice_cmp}
pub use Rattle.std.specs.Int.{is_in_range}
pub use Rattle.std.specs.List.{list_all, AllByRecursion, flat_map, list_any, filter, position_or_len, after_first, before_first, sum_by, position, onto_first, slice_range, slice_split, replace_range, cons_option}
pub use Rattle.std.specs.List.Sorted.{IsNonDecreasing, IsPermutation}
pub use Rattle.std.specs.Option.{option_map_or, is_none, ForSome, option_and_then, option_or}
pub use Rattle.std.specs.Ordering.{nat_cmp, is_eq, is_lt, ordering_reverse}
pub use Rattle.std.specs.Prelude.{Result}
pub use Rattle.std.specs.Result.{result_ok}
pub use Rattle.std.specs.Str.{bytes_eq, IsCharBoundary}
