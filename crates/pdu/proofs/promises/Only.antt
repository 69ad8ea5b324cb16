-- When writing gives each of its numbers: only what the row allows is written, and all of it.
use Rattle.octets.proofs.Kit.{ℕ, ◌+◌, ◌≤◌, ◌<◌, ◌≡◌, refl, sym, ap, ◌∙◌, ◌↔◌, ◌⊎◌, inl, inr, ⊎_elim, Bool, true, false, cond, List, arith, leb, ltb, length, ltb-true, ltb-false, lt-ltb}
use Rattle.octets.proofs.Kit.{le-ltb}
use Rattle.std.proofs.Common.{Result, Ok, Err}
use Rattle.octets.proofs.Truths.{never, decided, and_is, at_most_is}
use Rattle.pdu.specs.{Table.row_of, Pdus.{service_of, values_of}, Read.data_at, Write.{fits_in, writable, write_of, write_outcome}, Allows.{Allows, Typed}, declared.Pdu.Pdu}
use Rattle.pdu.specs.declared.WriteRefusal.{WriteRefusal, TheVariants.{Room, Fields}}
use Rattle.pdu.proofs.promises.Allowed.{fits_is}

-- THE TEST BEFORE WRITING SAYS WHAT THE ROW ALLOWS
pub writable_is : (p : Pdu) (d : List ℕ) → Typed p → (writable p d ≡ true) ↔ Allows (row_of (service_of p)) (values_of p) (data_at p + length d)
unfolding writable
writable_is p d w =
    let n : ℕ = data_at p + length d in
    let b = and_is (leb n 16) (fits_in p n) in (
      λ e. let m = (at_most_is n 16).0 (b.0 e).0 in (fits_is (row_of (service_of p)) (values_of p) n w m).0 (b.0 e).1,
      λ a. b.1 ((at_most_is n 16).1 a.most, (fits_is (row_of (service_of p)) (values_of p) n w a.most).1 a),
    )

-- the cases, and what writing then gives
data Due (p : Pdu) (d o : List ℕ) : Type 0 where
  short : length o < 16 → Due p d o
  long : 16 ≤ length o → (t : Bool) → writable p d ≡ t → Due p d o

abbrev given : {p : Pdu} {d o : List ℕ} → Due p d o → Result ℕ WriteRefusal
given (short h) = Err Room
given {p} {d} (long h t e) = cond t (Ok (data_at p + length d)) (Err Fields)

due : (p : Pdu) (d o : List ℕ) → Due p d o
due p d o = ⊎_elim (λ h. short (ltb-true (length o) 16 h)) (λ h. long (ltb-false (length o) 16 h) (writable p d) refl) (decided (ltb (length o) 16))

gives : (p : Pdu) (d o : List ℕ) (c : Due p d o) → write_of p d o ≡ given c
unfolding write_of
gives p d o (short h) = simp (lt-ltb (length o) 16 h)
gives p d o (long h t e) = simp (le-ltb (length o) 16 h) (ap (λ (u : Bool). cond u (Ok (data_at p + length d)) (Err Fields)) e)

-- the number of a writing is that of its case
told : (p : Pdu) (d o : List ℕ) → write_outcome (write_of p d o) ≡ write_outcome (given (due p d o))
told p d o = ap write_outcome (gives p d o (due p d o))

-- NO OTHER NUMBER IS GIVEN
pub writes_one : (p : Pdu) (d o : List ℕ) → (write_outcome (write_of p d o) ≡ 0) ⊎ (write_outcome (write_of p d o) ≡ 3) ⊎ (write_outcome (write_of p d o) ≡ 13)
writes_one p d o = from (due p d o) (told p d o)
  where
    from : (c : Due p d o) → write_outcome (write_of p d o) ≡ write_outcome (given c) →
        (write_outcome (write_of p d o) ≡ 0) ⊎ (write_outcome (write_of p d o) ≡ 3) ⊎ (write_outcome (write_of p d o) ≡ 13)
    from (short h) e = inr (inl e)
    from (long h true f) e = inl e
    from (long h false f) e = inr (inr e)

-- 3: EXACTLY IF THE BUFFER HAS LESS THAN 16 BYTES
pub writes_3 : (p : Pdu) (d o : List ℕ) → (write_outcome (write_of p d o) ≡ 3) ↔ (length o < 16)
writes_3 p d o = (λ e. from (due p d o) (sym (told p d o) ∙ e), λ h. ap write_outcome (gives p d o (short h)))
  where
    from : (c : Due p d o) → write_outcome (given c) ≡ 3 → length o < 16
    from (short h) n = h
    from (long h true f) n = absurd (omega arith)
    from (long h false f) n = absurd (omega arith)

-- 13: EXACTLY IF IT HAS THEM AND THE ROW DOES NOT ALLOW THE FIELDS IN SO MANY BYTES
pub writes_13 :
    (p : Pdu) (d o : List ℕ) → Typed p →
    (write_outcome (write_of p d o) ≡ 13) ↔ ((16 ≤ length o) × (Allows (row_of (service_of p)) (values_of p) (data_at p + length d) → ⊥))
writes_13 p d o w = (
  λ e. from (due p d o) (sym (told p d o) ∙ e),
  λ h. ap write_outcome (gives p d o (long h.0 false (⊎_elim (λ f. absurd (h.1 ((writable_is p d w).0 f))) (λ f. f) (decided (writable p d))))),
)
  where
    from : (c : Due p d o) → write_outcome (given c) ≡ 13 → (16 ≤ length o) × (Allows (row_of (service_of p)) (values_of p) (data_at p + length d) → ⊥)
    from (short h) n = absurd (omega arith)
    from (long h true f) n = absurd (omega arith)
    from (long h false f) n = (h, λ a. never (sym f ∙ (writable_is p d w).1 a))

-- 0: EXACTLY IF IT HAS THEM AND THE ROW ALLOWS THE FIELDS IN SO MANY BYTES
pub writes_0 :
    (p : Pdu) (d o : List ℕ) → Typed p →
    (write_outcome (write_of p d o) ≡ 0) ↔ ((16 ≤ length o) × Allows (row_of (service_of p)) (values_of p) (data_at p + length d))
writes_0 p d o w = (
  λ e. from (due p d o) (sym (told p d o) ∙ e),
  λ h. ap write_outcome (gives p d o (long h.0 true ((writable_is p d w).1 h.1))),
)
  where
    from : (c : Due p d o) → write_outcome (given c) ≡ 0 → (16 ≤ length o) × Allows (row_of (service_of p)) (values_of p) (data_at p + length d)
    from (short h) n = absurd (omega arith)
    from (long h true f) n = (h, (writable_is p d w).0 f)
    from (long h false f) n = absurd (omega arith)

-- and then it is the count
pub written : (p : Pdu) (d o : List ℕ) → write_outcome (write_of p d o) ≡ 0 → write_of p d o ≡ Ok (data_at p + length d)
written p d o e = from (due p d o) (gives p d o (due p d o)) (sym (told p d o) ∙ e)
  where
    from : (c : Due p d o) → write_of p d o ≡ given c → write_outcome (given c) ≡ 0 → write_of p d o ≡ Ok (data_at p + length d)
    from (short h) g n = absurd (omega arith)
    from (long h true f) g n = g
    from (long h false f) g n = absurd (omega arith)
