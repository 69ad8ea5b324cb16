-- When reading gives each of its numbers, and which PDU with 0.
use Rattle.octets.proofs.Kit.{ℕ, ◌≤◌, ◌<◌, ◌≡◌, refl, sym, ap, ◌∙◌, ◌↔◌, ◌⊎◌, inl, inr, ⊎_elim, Bool, true, false, cond, List, arith, ltb, length, ltb-true, ltb-false, lt-ltb, le-ltb}
use Rattle.std.proofs.Common.{Option, Some, None, Result, Ok, Err}
use Rattle.octets.{specs.Octets.{Octets, ReadFrom}, proofs.Truths.{never, decided, must_fail}}
use Rattle.pdu.specs.{Table.{row_of, has, service_at}, Pdus.{service_of, pdu_of}, Rules.{code_of, values_at, fits}, Read.{built_of, read_found, read_pdu, read_outcome}, Allows.{Allows, Carries}}
use Rattle.pdu.specs.declared.{Service.Service, Pdu.Pdu, ReadRefusal.ReadRefusal}
use Rattle.pdu.specs.declared.ReadRefusal.TheVariants as unread
use Rattle.pdu.proofs.{promises.Allowed.{fits_is, wide}, Sound.{sound, again}, Stands.{stands, stands_wide}, promises.{Codes.{found, named, unknown}, Readings.reading}}

-- an APDU is 2 to 16 bytes long
record Sized (b : List ℕ) : Type 0 where
  least : 2 ≤ length b
  most : length b ≤ 16

-- the row of a service lets stand what is in the bytes: the test, and what it says
abbrev fits_at : Service → List ℕ → Bool
fits_at k b = fits (row_of k) (values_at (row_of k).items 2 b) (length b)

fits_at_is : (b : List ℕ) (k : Service) → Octets b → length b ≤ 16 → (fits_at k b ≡ true) ↔ Allows (row_of k) (values_at (row_of k).items 2 b) (length b)
fits_at_is b k small m =
    let is = (row_of k).items in
    let x = values_at is 2 b in
    fits_is (row_of k) x (length b) (stands_wide is x 2 b small (stands is x 2 b ((sound k).distinct b))) m

-- the cases, and what reading then gives
data Due (b : List ℕ) : Type 0 where
  size : (length b < 2) ⊎ (16 < length b) → Due b
  none : Sized b → ((k : Service) → has (row_of k) (code_of b) ≡ false) → Due b
  one : Sized b → (k : Service) (t : Bool) → has (row_of k) (code_of b) ≡ true → fits_at k b ≡ t → Due b

due : (b : List ℕ) → Due b
due b =
    ⊎_elim (λ h. size (inl (ltb-true (length b) 2 h)))
    (λ h.
    ⊎_elim (λ g. size (inr (ltb-true 16 (length b) g)))
    (λ g. by_code (record { least = ltb-false (length b) 2 h; most = ltb-false 16 (length b) g }) (service_at (code_of b)) refl)
    (decided (ltb 16 (length b))))
    (decided (ltb (length b) 2))
  where
    by_code : Sized b → (f : Option Service) → service_at (code_of b) ≡ f → Due b
    by_code s None e = none s ((unknown (code_of b)).0 e)
    by_code s (Some k) e = one s k (fits_at k b) (named k (code_of b) e) refl

abbrev given : {b : List ℕ} → Due b → Result Pdu ReadRefusal
given (size h) = Err unread.Length
given (none s h) = Err unread.Service
given {b} (one s k t h f) = cond t (Ok (built_of k b)) (Err unread.Fields)

sized : (b : List ℕ) (f : Option Service) → Sized b → service_at (code_of b) ≡ f → read_pdu b ≡ read_found f b
unfolding read_pdu
sized b f s e = simp (le-ltb (length b) 2 s.least, le-ltb 16 (length b) s.most) (ap (λ (g : Option Service). read_found g b) e)

gives : (b : List ℕ) (d : Due b) → read_pdu b ≡ given d
unfolding read_pdu
gives b (size (inl h)) = simp (lt-ltb (length b) 2 h)
gives b (size (inr h)) = simp (le-ltb (length b) 2 (omega arith), lt-ltb 16 (length b) h)
gives b (none s h) = sized b None s ((unknown (code_of b)).1 h)
gives b (one s k t h f) = sized b (Some k) s (found k (code_of b) h) ∙ ap (λ (u : Bool). cond u (Ok (built_of k b)) (Err unread.Fields)) f

-- the number of a reading is that of its case
told : (b : List ℕ) → read_outcome (read_pdu b) ≡ read_outcome (given (due b))
told b = ap read_outcome (gives b (due b))

-- NO OTHER NUMBER IS GIVEN
pub reads_one :
    (b : List ℕ) → (read_outcome (read_pdu b) ≡ 0) ⊎ (read_outcome (read_pdu b) ≡ 5) ⊎ (read_outcome (read_pdu b) ≡ 8) ⊎ (read_outcome (read_pdu b) ≡ 10)
reads_one b = from (due b) (told b)
  where
    from : (d : Due b) → read_outcome (read_pdu b) ≡ read_outcome (given d) →
        (read_outcome (read_pdu b) ≡ 0) ⊎ (read_outcome (read_pdu b) ≡ 5) ⊎ (read_outcome (read_pdu b) ≡ 8) ⊎ (read_outcome (read_pdu b) ≡ 10)
    from (size h) e = inr (inl e)
    from (none s h) e = inr (inr (inl e))
    from (one s k true h f) e = inl e
    from (one s k false h f) e = inr (inr (inr e))

-- 5: EXACTLY IF THE LENGTH IS NOT 2 TO 16
pub reads_5 : (b : List ℕ) → (read_outcome (read_pdu b) ≡ 5) ↔ ((length b < 2) ⊎ (16 < length b))
reads_5 b = (λ e. from (due b) (sym (told b) ∙ e), λ h. ap read_outcome (gives b (size h)))
  where
    from : (d : Due b) → read_outcome (given d) ≡ 5 → (length b < 2) ⊎ (16 < length b)
    from (size h) e = h
    from (none s h) e = absurd (omega arith)
    from (one s k true h f) e = absurd (omega arith)
    from (one s k false h f) e = absurd (omega arith)

-- 8: EXACTLY IF IT IS, AND NO ROW HAS THE CODE
pub reads_8 : (b : List ℕ) → (read_outcome (read_pdu b) ≡ 8) ↔ ((2 ≤ length b) × (length b ≤ 16) × ((k : Service) → has (row_of k) (code_of b) ≡ false))
reads_8 b = (λ e. from (due b) (sym (told b) ∙ e), λ h. ap read_outcome (gives b (none (record { least = h.0; most = h.1 }) h.2)))
  where
    from : (d : Due b) → read_outcome (given d) ≡ 8 → (2 ≤ length b) × (length b ≤ 16) × ((k : Service) → has (row_of k) (code_of b) ≡ false)
    from (size h) e = absurd (omega arith)
    from (none s h) e = (s.least, s.most, h)
    from (one s k true h f) e = absurd (omega arith)
    from (one s k false h f) e = absurd (omega arith)

abbrev pub Against : List ℕ → Type 0
Against b =
    (2 ≤ length b) × (length b ≤ 16) × ((k : Service) × (has (row_of k) (code_of b) ≡ true) × (Allows (row_of k) (values_at (row_of k).items 2 b) (length b) → ⊥))

pub told_10 : (b : List ℕ) → Octets b → (read_outcome (read_pdu b) ≡ 10) ↔ Against b
told_10 b small = (
  λ e. from (due b) (sym (told b) ∙ e),
  λ h. let k = h.2.0 in
      let no = must_fail (fits_at k b) (λ f. h.2.2 ((fits_at_is b k small h.1).0 f)) in
      ap read_outcome (gives b (one (record { least = h.0; most = h.1 }) k false h.2.1 no)),
)
  where
    from : (d : Due b) → read_outcome (given d) ≡ 10 → Against b
    from (size h) e = absurd (omega arith)
    from (none s h) e = absurd (omega arith)
    from (one s k true h f) e = absurd (omega arith)
    from (one s k false h f) e = (s.least, s.most, (k, h, λ a. never (sym f ∙ (fits_at_is b k small s.most).1 a)))

-- the bytes of a PDU read as it
pub carried : (b : List ℕ) (p : Pdu) → Carries b p → read_pdu b ≡ Ok p
carried b p c =
    let k : Service = service_of p in
    let a : Allows (row_of k) (values_at (row_of k).items 2 b) (length b) = rw c.fields at c.allowed in
    let f : fits_at k b ≡ true = (fits_is (row_of k) (values_at (row_of k).items 2 b) (length b) (wide (row_of k).items (values_at (row_of k).items 2 b) a.fields) a.most).1 a in
    let e : read_pdu b ≡ Ok (built_of k b) = gives b (one (record { least = c.least; most = a.most }) k true c.code f) in
    let g : built_of k b ≡ p = ap (pdu_of k) (sym c.fields) ∙ again p in
    e ∙ ap Ok g

-- and what reads as a PDU is its bytes
pub read_carries : (b : List ℕ) (p : Pdu) → Octets b → read_pdu b ≡ Ok p → Carries b p
read_carries b p small e =
    let k : Service = service_of p in
    let r = reading b p e in
    record {
      least = r.least;
      code = named k (code_of b) r.names;
      fields = r.fields;
      allowed = rw r.fields ((fits_at_is b k small r.most).0 (rw r.fields at r.fit));
    }

told_0 : (b : List ℕ) → Octets b → (read_outcome (read_pdu b) ≡ 0) ↔ ((p : Pdu) × Carries b p)
told_0 b small = (λ e. from (due b) (sym (told b) ∙ e), λ h. ap read_outcome (carried b h.0 h.1))
  where
    from : (d : Due b) → read_outcome (given d) ≡ 0 → (p : Pdu) × Carries b p
    from (size h) e = absurd (omega arith)
    from (none s h) e = absurd (omega arith)
    from (one s k true h f) e = (built_of k b, read_carries b (built_of k b) small (gives b (one s k true h f)))
    from (one s k false h f) e = absurd (omega arith)

-- OF A CALL, which gave r for the bytes b
module _ (b : List ℕ) (r : Result Pdu ReadRefusal) (call : ReadFrom b r (read_pdu b)) where
  -- 10: EXACTLY IF A ROW HAS THE CODE OF 2 TO 16 BYTES, AND THAT ROW DOES NOT ALLOW THE FIELDS IN SO MANY
  pub reads_10 :
      (read_outcome r ≡ 10) ↔ ((2 ≤ length b) × (length b ≤ 16) × ((k : Service) × (has (row_of k) (code_of b) ≡ true) × (Allows (row_of k) (values_at (row_of k).items 2 b) (length b) → ⊥)))
  reads_10 = rw call.is (told_10 b call.bytes)

  -- WHICH PDU: THE ONE THAT THE BYTES CARRY
  pub reads_pdu : (p : Pdu) → (r ≡ Ok p) ↔ Carries b p
  reads_pdu p = (λ e. read_carries b p call.bytes (sym call.is ∙ e), λ c. call.is ∙ carried b p c)

  -- 0: EXACTLY IF THE BYTES CARRY A PDU
  pub reads_0 : (read_outcome r ≡ 0) ↔ ((p : Pdu) × Carries b p)
  reads_0 = rw call.is (told_0 b call.bytes)
