-- From what the parts of a write ensure to what writing gives, and where the data stands.
use Rattle.octets.proofs.Kit.{ℕ, ◌+◌, ◌≤◌, ◌<◌, ◌≡◌, refl, sym, ap, ◌∙◌, Bool, true, false, List, arith, leb, length, length-append}
use Rattle.octets.proofs.Kit.{lt-ltb, le-ltb, le-leb, lt-leb}
use Rattle.std.proofs.Common.{Ok, Err}
use Rattle.octets.{specs.Splice.splice, proofs.{Splices.length_splice, Tests.not_second_lem, Truths.{and_is, at_most_is}}}
use Rattle.pdu.specs.{Item.Row, Table.row_of, Pdus.{service_of, values_of}, Rules.head_bytes, Read.{data_at}, Write.{encoded, fits_in, writable, write_of, Wrote}, declared.Pdu.Pdu}
use Rattle.pdu.specs.declared.WriteRefusal.TheVariants.{Room, Fields}
use Rattle.pdu.proofs.{Items.length_head, Stores.longer}

-- the bytes of a PDU are as many as its place of data and its data say
pub length_encoded : (p : Pdu) (d : List ℕ) → length (encoded p d) ≡ data_at p + length d
unfolding encoded
length_encoded p d =
    let r : Row = row_of (service_of p) in
    length-append (head_bytes r (values_of p)) d ∙ ap (λ (n : ℕ). n + length d) (length_head r (values_of p))

pub wrote_3 : (p : Pdu) (d o : List ℕ) → length o < 16 → Wrote p d o (Err Room) o
unfolding write_of
wrote_3 p d o h = record { result = simp (lt-ltb _ _ h); buffer = refl }

wrote_refused : (p : Pdu) (d o : List ℕ) → 16 ≤ length o → writable p d ≡ false → Wrote p d o (Err Fields) o
unfolding write_of
wrote_refused p d o h e = record { result = simp (le-ltb _ _ h, e); buffer = refl }

module _ (p : Pdu) (d o : List ℕ) (a : ℕ) (h : 16 ≤ length o) (e : a ≡ data_at p) where
  pub wrote_long : 16 < a + length d → Wrote p d o (Err Fields) o
  unfolding writable
  wrote_long l = wrote_refused p d o h (let k : 16 < data_at p + length d = rw e at l in simp (lt-leb _ _ k))

  pub wrote_13 : (b : Bool) → b ≡ fits_in p (a + length d) → b ≡ false → Wrote p d o (Err Fields) o
  unfolding writable
  wrote_13 b f t =
      let g : fits_in p (data_at p + length d) ≡ false = sym (rw e at f) ∙ t in
      wrote_refused p d o h (not_second_lem (leb (data_at p + length d) 16) _ g)

  pub wrote_all :
      (o₂ : List ℕ) (b : Bool) (n : ℕ) →
      a + length d ≤ 16 →
      b ≡ fits_in p (a + length d) →
      b ≡ true →
      n ≡ data_at p + length d →
      o₂ ≡ splice o 0 (encoded p d) →
      Wrote p d o (Ok n) o₂
  unfolding write_of writable
  wrote_all o₂ b n l f t g k =
      let l' : data_at p + length d ≤ 16 = rw e at l in
      let f' : fits_in p (data_at p + length d) ≡ true = sym (rw e at f) ∙ t in
      record { result = simp (le-ltb _ _ h, le-leb _ _ l', f') (ap Ok g); buffer = k }

  -- head and data stored are the PDU's bytes
  pub put_all : (o₁ o₂ : List ℕ) → o₁ ≡ splice o 0 (head_bytes (row_of (service_of p)) (values_of p)) → o₂ ≡ splice o₁ a d
      → o₂ ≡ splice o 0 (encoded p d)
  unfolding encoded
  put_all o₁ o₂ g k =
      let n : length (head_bytes (row_of (service_of p)) (values_of p)) ≡ a = length_head (row_of (service_of p)) (values_of p) ∙ sym e in
      longer o o₁ o₂ (head_bytes (row_of (service_of p)) (values_of p)) d a n g k

-- the buffer keeps its length
pub same_room : (p : Pdu) (d o e : List ℕ) → 16 ≤ length o → data_at p + length d ≤ 16 → e ≡ splice o 0 (encoded p d) → length e ≡ length o
same_room p d o e h l q = ap length q ∙ length_splice o 0 (encoded p d) (omega (arith, length_encoded p d))

-- what may be written has room
pub has_room : (p : Pdu) (d : List ℕ) → writable p d ≡ true → data_at p + length d ≤ 16
unfolding writable
has_room p d w = let n : ℕ = data_at p + length d in (at_most_is n 16).0 ((and_is (leb n 16) (fits_in p n)).0 w).0
