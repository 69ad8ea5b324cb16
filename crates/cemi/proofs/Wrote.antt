-- From what the parts of a write ensure to what writing gives. Assumes nothing.
use Rattle.octets.proofs.Kit.{ℕ, ◌+◌, ◌-◌, ◌≤◌, ◌<◌, ◌≡◌, refl, sym, ◌∙◌, Bool, true, false, ◌&&◌, List, length, lt-ltb, le-ltb, leb-true, leb}
use Rattle.std.specs.Prelude.{Ok, Err, is_ok}
use Rattle.octets.{specs.Splice.splice, proofs.Truths.{first_true, second_true}}
use Rattle.cemi.specs.declared.WriteRefusal.TheVariants as why
use Rattle.cemi.specs.{Read.refusal_of, Write.{encoded, count_of, writable, write_of, Wrote}, declared.Fields.Fields}

-- what may be written has these bounds
pub record Writable (f : Fields) (l k : ℕ) : Type 0 where
  pub info : l ≤ 255
  pub transport : f.transport ≤ 63
  pub some : 1 ≤ k
  pub few : k ≤ 16
  pub judged : is_ok (refusal_of (count_of l k) l f (k - 1)) ≡ true

pub bounds : (f : Fields) (l k : ℕ) → writable f l k ≡ true → Writable f l k
unfolding writable
bounds f l k e =
    let d : Bool = is_ok (refusal_of (count_of l k) l f (k - 1)) in
    let e₁ = second_true (leb l 255) (leb f.transport 63 && (leb 1 k && (leb k 16 && d))) e in
    let e₂ = second_true (leb f.transport 63) (leb 1 k && (leb k 16 && d)) e₁ in
    let e₃ = second_true (leb 1 k) (leb k 16 && d) e₂ in
    record {
      info = leb-true l 255 (first_true (leb l 255) (leb f.transport 63 && (leb 1 k && (leb k 16 && d))) e);
      transport = leb-true f.transport 63 (first_true (leb f.transport 63) (leb 1 k && (leb k 16 && d)) e₁);
      some = leb-true 1 k (first_true (leb 1 k) (leb k 16 && d) e₂);
      few = leb-true k 16 (first_true (leb k 16) d e₃);
      judged = second_true (leb k 16) d e₃;
    }

pub may_write : (f : Fields) (l k : ℕ) (t : Bool) → t ≡ writable f l k → t ≡ true → Writable f l k
may_write f l k t e h = bounds f l k (sym e ∙ h)

module _ (f : Fields) (i a o : List ℕ) (t : Bool) (e : t ≡ writable f (length i) (length a)) where
  pub wrote_47 : t ≡ false → Wrote f i a o (Err why.Fields) o
  unfolding write_of
  wrote_47 h = record { result = simp (sym e ∙ h); buffer = refl }

  module _ (h : t ≡ true) where
    pub wrote_46 : length o < 2 + length i + 7 + length a → Wrote f i a o (Err why.Room) o
    unfolding write_of
    wrote_46 l = record { result = simp (sym e ∙ h, lt-ltb _ _ l); buffer = refl }

    pub wrote_all :
        (o₁ : List ℕ) → 2 + length i + 7 + length a ≤ length o → o₁ ≡ splice o 0 (encoded f i a) →
        Wrote f i a o (Ok (2 + length i + 7 + length a)) o₁
    unfolding write_of
    wrote_all o₁ l g = record { result = simp (sym e ∙ h, le-ltb _ _ l); buffer = g }
