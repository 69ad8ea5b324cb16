-- The names of the kit's library that proofs use, of this crate and of those above: each has them from here, in one line.
pub use Prim.Native.Nat.{◌%◌, ◌*◌, ◌+◌, ◌-◌, ◌/◌, ◌<◌, ◌^◌, ◌≤◌, max, min, suc, zero, zero-le, ℕ}
pub use borrow.Author.Rules.{rules}
pub use borrow.Author.Tests.{eq-eqb, eqb-false, eqb-true, le-leb, le-ltb, leb-false, leb-true, lt-leb, lt-ltb, ltb-false, ltb-true, ne_eqb, not-false, not-true}
pub use lib.Bits.{and_le_l, and_le_r, and_lt, bit_and, bit_or, bit_xor, or_add_and, or_zero_l, xor_add_and, xor_lt, xor_self}
pub use lib.Dec.{T, eqb, eqb_refl, eqb→eq, leb, lit<, lit≤, ltb, ltb→lt}
pub use lib.Ieee.{Float, binary32, down, fin, fits, inf, nan, nan_bits, up}
unfoldable pub use lib.Ieee.{eq, is_nan, of_bits, of_fields, to_bits}
pub use lib.Ieee.Bits.{nan_bits_above, nan_bits_is, of_bits-to_bits, to_bits-lt, to_bits-of_bits}
pub use lib.IntN.{+ℤ_idl, ◌*ℤ◌, ◌-ℤ◌, nat_abs, negsuc, neg_ℤ, pos, pos-ne-negsuc, sub_ℕ, ℤ}
pub use lib.ListN.{get_or-append as List·getD-append, get_or-eq_default as List·getD-eq-default, drop, drop_of_length-le, get_or, get_or-replicate, get_elem?, length, length-append, length-drop, length-replicate, length-set}
pub use lib.ListN.{length-take, replicate, replicate-append-replicate, set, take, take-append-drop}
pub use lib.Pow.{pow-add, pow_pos}
pub use lib.Seq.{append_snoc, drop-append-add, drop-append-le, drop-append_seam, drop_at, drop-cons, drop-drop, drop-length, ext_get_or, get_or-append-add, get_or-drop, get_or-set_other}
pub use lib.Seq.{get_or-set_same, get_or-take, length-take-le, paste, paste-suc, paste-zero, set_comm, set_split, sets, sets-eq, take-add, take_all, take-append-add, take-append-le}
pub use lib.Seq.{take-append_seam, take_at, take-length, take-nil, take-suc, take-take}
pub use lib.Signed.{le_z, lt_z, mag, non_neg, quot_z}
pub use mathlib.Core.Bool.{Bool, beq as Bool·beq, ◌&&◌, ◌||◌, and-eq-true_iff, cond, false, not, true, true≢false}
pub use mathlib.Core.List.{List, [], ◌++◌, ◌∷◌, append_assoc, append-nil, map, reverse, reverse-cons, reverse-reverse}
pub use mathlib.Core.Logic.{◌↔◌, ◌⊎◌, inl, inr, ⊎_elim}
pub use mathlib.Core.Option.{Option, none-ne-some as Option·none-ne-some, none, some}
pub use mathlib.Core.Path.{◌∙◌, ◌≡◌, ap, ap₂, refl, subst, subst⁻¹, sym}
pub use native.Mathlib.Decide.{dec_le, dec_lt, ℕ_discrete}
pub use native.Mathlib.Nat.{add_assoc, add-sub_cancel_left, add-suc, add-zero, div-add-mod', div-le_self, div-mul-le_self, dvd_of_mod-eq-zero, eq_of_mul-eq-mul_right, eq-or-lt_of_le}
pub use native.Mathlib.Nat.{le_antisymm, le_of_lt, le_of_suc-le-suc, le_refl, le_trans, lt-div-mul-add, mod-add-mod, mod-eq_of_lt, mod-lt, mod-mod_of_dvd, mul_assoc, mul_comm, mul-le-mul}
pub use native.Mathlib.Nat.{mul-le-mul_right, mul_left_comm, mul-suc, pow-le-pow_right, pow-suc, suc-mul, zero-add}
pub use native.Mathlib.Numerals.{add-one}
pub use native.Mathlib.Omega.{arith}
