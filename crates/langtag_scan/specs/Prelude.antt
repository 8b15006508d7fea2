-- The words that specs and contracts use of std's other pages than its Prelude. Declares nothing.
pub use Rattle.std.specs.Borrow.{Bor, MutBor}
pub use Rattle.std.specs.Char.{to_ascii_uppercase, is_ascii_alphabetic, is_ascii_digit, to_ascii_lowercase}
pub use Rattle.std.specs.Cmp.{IsEquivalence, IsPartialEquivalence, IsTotalOrder, IsPartialOrder, Agrees, partial_equiv_from_equiv, on_equiv, on_total, unsigned_ties, partial_order_from_agreeing_total}
pub use Rattle.std.specs.Cmp.Lexicographic.{slice_cmp, nat_list_cmp_total, nat_list_eq_equiv, lists_ties, bytes_decides}
pub use Rattle.std.specs.Hash.{HashWrites, usize, u8}
pub use Rattle.std.specs.Int.{is_in_range, bit_at, w64, to_be_bytes}
pub use Rattle.std.specs.Io.KnownBytes.{Appends, append_known}
pub use Rattle.std.specs.Iterator.{YieldsFirst, item_count, YieldsFirstBy, YieldsFirstRef, YieldsLastRef, YieldsLastBy}
pub use Rattle.std.specs.List.{list_any, AllWithin, list_all, slice_split, after_first, before_first, AllByRecursion, range_with_len, position_or_len, cons_option, join_with_byte, after_last, replace_range}
pub use Rattle.std.specs.List.Sorted.{IsNonDecreasing}
pub use Rattle.std.specs.Option.{ForSome, option_map_or, option_or}
pub use Rattle.std.specs.Ordering.{nat_cmp, is_lt, is_gt, on, as_partial_cmp, eq_by_cmp}
pub use Rattle.std.specs.String.{string_vec}
pub use Rattle.std.specs.Vec.{SameBlock}
pub use Rattle.std.specs.declared.alloc.Global.{Global}
pub use Rattle.std.specs.declared.cmp.Ordering.{Ordering}
pub use Rattle.std.specs.declared.cmp.Ordering.TheVariants.{Less, Equal, Greater}
