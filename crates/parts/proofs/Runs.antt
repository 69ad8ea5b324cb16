-- Bytes written one run after the other, from the first.
use Rattle.octets.proofs.Kit.{ℕ, zero, suc, ◌+◌, ◌*◌, ◌-◌, ◌/◌, ◌%◌, ◌≤◌, ◌<◌, ◌≡◌, refl, sym, ap, subst, ◌∙◌, List, [], ◌∷◌, arith, eqb, dec_lt, length, get_or, take, drop, length-take}
use Rattle.octets.proofs.Kit.{length-drop, ext_get_or, get_or-take, get_or-drop}
use Rattle.octets.{specs.{Bytes.{num_at, bytes_of}, Splice.splice, Octets.Octets}, proofs.{Numbers.{num_one, bytes_back, length_bytes}, Splices.{length_splice, splice_in, splice_below}}}
use Rattle.parts.specs.{declared.{Property.Property, Parts.Parts, Starts.Starts}, Records.{no_region, no_property, no_group}, Again.{type_of, levels_of, WholeRegion, WholeProperty}}
use Rattle.parts.specs.Again.{WholeGroup, SameFront, Restores, Each, IsAt, WholeBodies, WholeHead, WholeEntries, Whole, second, third, fourth, end}
use Rattle.parts.proofs.Bits.{top_bit}

-- the bytes ds stand in s from at + k on
abbrev pub Runs : List ℕ → List ℕ → ℕ → ℕ → Type 0
Runs [] s at k = Unit
Runs (d ∷ ds) s at k = (d ≡ get_or s (at + k) 0) × Runs ds s at (suc k)

pub runs_at : (ds s : List ℕ) (at k : ℕ) → Runs ds s at k → (j : ℕ) → j < length ds → get_or ds j 0 ≡ get_or s (at + (k + j)) 0
runs_at [] s at k h j l = absurd (omega arith)
runs_at (d ∷ ds) s at k h zero l = h.0 ∙ ap (λ (n : ℕ). get_or s n 0) (omega arith)
runs_at (d ∷ ds) s at k h (suc j) l = runs_at ds s at (suc k) h.1 j (omega arith) ∙ ap (λ (n : ℕ). get_or s n 0) (omega arith)

pub same_run : (t s ds : List ℕ) (at : ℕ) → at + length ds ≤ length t → Runs ds s at 0 → SameFront t s at → SameFront (splice t at ds) s (at + length ds)
same_run t s ds at l r h =
    record {
      long = length_splice t at ds l ∙ h.long;
      front = λ p k. go p k (dec_lt p at);
    }
  where
    go : (p : ℕ) → p < at + length ds → Dec (p < at) → get_or (splice t at ds) p 0 ≡ get_or s p 0
    go p k (yes b) = splice_below t at ds l p b ∙ h.front p b
    go p k (no b) =
        let e : p ≡ at + (p - at) = omega arith in
        ap (λ (n : ℕ). get_or (splice t at ds) n 0) e
        ∙ splice_in t at ds l (p - at) (omega arith)
        ∙ runs_at ds s at 0 r (p - at) (omega arith)
        ∙ ap (λ (n : ℕ). get_or s n 0) (omega arith)

module _ (P : List ℕ → Type 0) where
  pub restores_run : (t t' ds : List ℕ) (at b : ℕ) → ((s : List ℕ) → Octets s → P s → Runs ds s at 0) → at + length ds ≤ length t → t' ≡ splice t at ds → b ≡ at + length ds → Restores P t t' at b
  restores_run t t' ds at b f l e eb =
      record {
        restored =
            λ s o p h.
            subst (λ (x : List ℕ). SameFront x s b) (sym e) (subst (λ (n : ℕ). SameFront (splice t at ds) s n) (sym eb) (same_run t s ds at l (f s o p) h));
      }

-- up to the same place by another name
pub restores_to : (P : List ℕ → Type 0) (t t' : List ℕ) (a b c : ℕ) → Restores P t t' a b → b ≡ c → Restores P t t' a c
restores_to P t t' a b c f e = subst (λ (m : ℕ). Restores P t t' a m) e f

-- bytes of two fields
module _ (s : List ℕ) (o : Octets s) where
  pub levels_at : (p r w l : ℕ) → l ≡ levels_of r w → r ≡ num_at s p 1 / 16 → w ≡ num_at s p 1 % 16 → l ≡ num_at s p 1
  levels_at p r w l e a b = omega (arith, e, a, b, num_one s p, o p)

  pub type_at : (p y : ℕ) (e : Property) → y ≡ type_of e → e.writable ≡ eqb (num_at s p 1 / 128) 1 → e.typ ≡ num_at s p 1 % 128 → y ≡ num_at s p 1
  type_at p y e h a b = h ∙ top_bit (num_at s p 1) e.typ e.writable (omega (arith, num_one s p, o p)) a b

-- WRITTEN SO FAR: of a sheet t, which became t' and is as long, what P says from a to b
pub record Along (P : List ℕ → Type 0) (t t' : List ℕ) (a b : ℕ) : Type 0 where
  pub done : Restores P t t' a b
  pub long : length t' ≡ length t

pub begun : (P : List ℕ → Type 0) (t : List ℕ) (a : ℕ) → Along P t t a a
begun P t a = record { done = record { restored = λ s o p h. h }; long = refl }

-- one run more, and one number
module _ {P : List ℕ → Type 0} {t t₁ t₂ : List ℕ} {a b c : ℕ} (r : Along P t t₁ a b) (e : b ≡ c) where
  pub on_by : {Q : List ℕ → Type 0} {d : ℕ} → ((s : List ℕ) → Octets s → P s → Q s) → Restores Q t₁ t₂ c d → length t₂ ≡ length t₁ → Along P t t₂ a d
  on_by f g l =
      record {
        done = record { restored = λ s o p h. g.restored s o (f s o p) (subst (λ (n : ℕ). SameFront t₁ s n) e (r.done.restored s o p h)) };
        long = l ∙ r.long;
      }

  pub on : {w x : ℕ} → ((s : List ℕ) → Octets s → P s → x ≡ num_at s c w) → Restores (IsAt c w x) t₁ t₂ c (c + w) → length t₂ ≡ length t₁ → Along P t t₂ a (c + w)
  on f g l = on_by (λ s o p. record { is = f s o p }) g l

-- THE WALK THAT WRITES n ENTRIES, of any kind, of w bytes each: the first i are written
pub record Writing (P : ℕ → List ℕ → Type 0) (n w at : ℕ) (t₀ t : List ℕ) (i : ℕ) : Type 0 where
  pub most : i ≤ n
  pub along : Along (Each n P) t₀ t at (at + w * i)

module _ {P : ℕ → List ℕ → Type 0} {n w at : ℕ} {t₀ : List ℕ} where
  pub none_written : Writing P n w at t₀ t₀ 0
  none_written = record { most = omega arith; along = subst (λ (m : ℕ). Along (Each n P) t₀ t₀ at m) (omega arith) (begun (Each n P) t₀ at) }

  module _ {t : List ℕ} {i : ℕ} (r : Writing P n w at t₀ t i) where
    pub one_written : {t' : List ℕ} {c : ℕ} → i < n → Restores (P i) t t' (at + w * i) c → length t' ≡ length t → c ≡ at + w * (i + 1) → Writing P n w at t₀ t' (i + 1)
    one_written {t'} l g m e =
        record { most = omega arith; along = subst (λ (x : ℕ). Along (Each n P) t₀ t' at x) e (on_by r.along refl (λ s o p. p.each i l) g m) }

    pub all_written : n ≤ i → Restores (Each n P) t₀ t at (at + w * n)
    all_written h =
        let e : i ≡ n = omega (arith, r.most) in
        subst (λ (m : ℕ). Restores (Each n P) t₀ t at (at + w * m)) e r.along.done

-- the place behind entry i of w bytes
pub next_place : (at w i : ℕ) → at + w * i + w ≡ at + w * (i + 1)
next_place at w i = grind arith

-- the first n entries of an array, written as a list of their own
pub front_written : {A : Type 0} (d : A) (W : A → ℕ → List ℕ → Type 0) (rs : List A) (n at w : ℕ) (t t' : List ℕ) → n ≤ length rs
    → Restores (Each (length (take n rs)) (λ i s. W (get_or (take n rs) i d) (at + w * i) s)) t t' at (at + w * length (take n rs))
    → Restores (Each n (λ i s. W (get_or rs i d) (at + w * i) s)) t t' at (at + w * n)
front_written d W rs n at w t t' l r =
    let e : length (take n rs) ≡ n = simp length-take (omega arith) in
    record {
      restored =
          λ s o p h.
          subst (λ (m : ℕ). SameFront t' s (at + w * m)) e
          (r.restored s o
          record {
            each =
                λ i k.
                let m : i < n = omega (arith, e) in
                subst (λ x. W x (at + w * i) s) (sym (get_or-take n rs i d m)) (p.each i m);
          } h);
    }

-- a number of some bytes
pub runs_from : (ds s : List ℕ) (at k : ℕ) → ((j : ℕ) → j < length ds → get_or ds j 0 ≡ get_or s (at + (k + j)) 0) → Runs ds s at k
runs_from [] s at k f = tt
runs_from (d ∷ ds) s at k f = (
  f 0 (omega arith) ∙ ap (λ (n : ℕ). get_or s n 0) (omega arith),
  runs_from ds s at (suc k) (λ j l. f (suc j) (omega arith) ∙ ap (λ (n : ℕ). get_or s n 0) (omega arith)),
)

pub number_written : (t t' : List ℕ) (at w x : ℕ) → at + w ≤ length t → t' ≡ splice t at (bytes_of w x) → Restores (IsAt at w x) t t' at (at + w)
number_written t t' at w x l e =
    restores_run (IsAt at w x) t t' (bytes_of w x) at (at + w)
    (λ s o h.
    runs_from (bytes_of w x) s at 0
    (λ j k.
    ap (λ (y : ℕ). get_or (bytes_of w y) j 0) h.is ∙ bytes_back s at w o j (omega (arith, length_bytes w x)) ∙ ap (λ (n : ℕ). get_or s n 0) (omega arith)))
    (omega (arith, length_bytes w x)) e (omega (arith, length_bytes w x))

pub bodies_written : (t t' b d : List ℕ) (from n : ℕ) → from ≤ n → n ≤ length t → n ≤ length b → d ≡ take (n - from) (drop from b) → t' ≡ splice t from d → Restores (WholeBodies from b n) t t' from n
bodies_written t t' b d from n h l m ed e =
    let k : length d ≡ n - from = ap length ed ∙ simp (length-take, length-drop) (omega arith) in
    restores_run (WholeBodies from b n) t t' d from n
    (λ s o f.
    runs_from d s from 0
    (λ j q.
    ap (λ (x : List ℕ). get_or x j 0) ed
    ∙ get_or-take (n - from) (drop from b) j 0 (omega (arith, k))
    ∙ get_or-drop from b j 0
    ∙ f.each (from + j) (omega arith) (omega (arith, k))
    ∙ ap (λ (x : ℕ). get_or s x 0) (omega arith)))
    (omega (arith, k)) e (omega (arith, k))

-- the entries, and the whole
pub entries_written : (t₃ t₄ t₅ t₆ t₇ : List ℕ) (u : Parts) (r : Starts)
    → (r.properties ≡ second u.counts) × (r.groups ≡ third u.counts) × (r.users ≡ fourth u.counts) × (r.bodies ≡ end u.counts)
    → Restores (Each u.counts.regions (λ i s. WholeRegion (get_or u.regions i no_region) (32 + 8 * i) s)) t₃ t₄ 32 (second u.counts)
    → Restores (Each u.counts.properties (λ i s. WholeProperty (get_or u.properties i no_property) (r.properties + 12 * i) s)) t₄ t₅ r.properties (r.properties + 12 * u.counts.properties)
    → Restores (Each u.counts.groups (λ i s. WholeGroup (get_or u.groups i no_group) (r.groups + 8 * i) s)) t₅ t₆ r.groups (r.groups + 8 * u.counts.groups)
    → Restores (Each u.counts.users (λ i s. WholeRegion (get_or u.users i no_region) (r.users + 8 * i) s)) t₆ t₇ r.users (r.users + 8 * u.counts.users)
    → Restores (WholeEntries u) t₃ t₇ 32 (end u.counts)
entries_written t₃ t₄ t₅ t₆ t₇ u r q d e f g =
    let e' = rw q.0 at e in
    let f' = rw q.1 at f in
    let g' = rw q.2 at g in
    record {
      restored =
          λ s o w k.
          g'.restored s o w.users (f'.restored s o w.groups (e'.restored s o w.properties (d.restored s o w.regions k)));
    }

pub whole_written : (t₀ t₁ t₂ t₃ : List ℕ) (u : Parts) → Restores (WholeHead u.head u.counts u.length) t₀ t₁ 0 32
    → Restores (WholeEntries u) t₁ t₂ 32 (end u.counts)
    → Restores (WholeBodies (end u.counts) u.bodies u.length) t₂ t₃ (end u.counts) u.length
    → Restores (Whole u) t₀ t₃ 0 u.length
whole_written t₀ t₁ t₂ t₃ u a b c =
    record { restored = λ s o w k. c.restored s o w.bodies (b.restored s o w.entries (a.restored s o w.front k)) }

-- what is restored to the end is the sheet
pub restored_all : (P : List ℕ → Type 0) (t t' s : List ℕ) (n : ℕ) → Restores P t t' 0 n → Octets s → P s → length t ≡ length s → n ≡ length s → t' ≡ s
restored_all P t t' s n r o p l e =
    let q = r.restored s o p record { long = l; front = λ x k. absurd (omega arith) } in
    ext_get_or 0 t' s q.long (λ i k. q.front i (omega (arith, q.long)))
