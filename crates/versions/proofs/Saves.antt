-- The steps of saving, as their needs ask.
use Rattle.octets.proofs.Kit.{ℕ, ◌+◌, ◌-◌, ◌*◌, ◌≤◌, ◌≡◌, refl, sym, ap, ap₂, ◌∙◌, List, ◌++◌, append_assoc, arith, length, take, drop, replicate, length-append, length-drop}
use Rattle.octets.proofs.Kit.{length-take-le}
use Rattle.octets.{specs.{Bytes.bytes_of, Splice.splice, Moved.moved}, proofs.{Numbers.length_bytes, Splices.splice_more}}
use Rattle.sheet.specs.{Kind.{properties, groups}, Entries.{count, base, start_of, reached, body_at, body_end, end_from}, Rules.Accepted, Walk.Counted, Places.PropertyIn}
use Rattle.sheet.{specs.declared.PropertyEntry.PropertyEntry, proofs.{rules.Good.{Good, good}, places.BodyPlaces.{starts, reached_first, reached_next, reached_last, start_up, start_first}}}
use Rattle.versions.specs.{Store.{table_end, row_of}, Settings.{entries_long, bodies_long, settings_of}, Linked.linked, Steps.appended, Walk.Extents, declared.settings.Extent.Extent}

-- a row whose offset is not set yet
row_is : (x y : ℕ) → splice (splice (splice (replicate 8 0) 0 (bytes_of 2 x)) 2 (bytes_of 2 1)) 6 (bytes_of 2 y) ≡ row_of x 0 y
unfolding splice bytes_of row_of
row_is x y = refl

pub row_made :
    (s u v r₁ r₂ r₃ : List ℕ) (n t e x y : ℕ) → t ≡ table_end n → u ≡ moved s t (t + 8) (e - t) → r₁ ≡ splice (replicate 8 0) 0 (bytes_of 2 x) →
    r₂ ≡ splice r₁ 2 (bytes_of 2 1) → r₃ ≡ splice r₂ 6 (bytes_of 2 y) → v ≡ splice u t r₃ →
    v ≡ splice (moved s (table_end n) (table_end n + 8) (e - table_end n)) (table_end n) (row_of x 0 y)
row_made s u v r₁ r₂ r₃ n t e x y o f a b c g = g ∙ rw (c, b, a, row_is x y, f, o)

module _ (sh : List ℕ) (x : Extent) (h : Extents sh x) where
  abbrev n : ℕ
  n = x.count

  abbrev a : ℕ
  a = x.entries

  abbrev one : List ℕ
  one = take (a + 12 * n - a) (drop a sh)

  abbrev two : List ℕ
  two = take (x.to - x.from) (drop x.from sh)

  cancel : a + 12 * n - a ≡ 12 * n
  cancel = omega arith

  one_long : length one ≡ 12 * n
  one_long = length-take-le (a + 12 * n - a) (drop a sh) (simp length-drop (omega (arith, h.within))) ∙ cancel

  two_long : length two ≡ x.to - x.from
  two_long = length-take-le (x.to - x.from) (drop x.from sh) (simp length-drop (omega (arith, h.order, h.to)))

  parts : settings_of sh ≡ bytes_of 2 n ++ (one ++ two)
  unfolding settings_of
  parts =
      ap₂ (λ (k : ℕ) (l : List ℕ). bytes_of 2 k ++ l) (sym h.count)
      (ap₂ ◌++◌ (sym h.entries ∙ ap (λ (k : ℕ). take k (drop a sh)) (sym cancel)) (sym h.bodies))

  -- HOW LONG THE BODY OF A VERSION IS
  pub settings_long : length (settings_of sh) ≡ 2 + (12 * n + (x.to - x.from))
  settings_long = ap length parts ∙ length-append (bytes_of 2 n) (one ++ two) ∙ omega (arith, length_bytes 2 n, length-append one two, one_long, two_long)

  module _ (s : List ℕ) (at : ℕ) (room : at + length (settings_of sh) ≤ length s) where
    pub room_number : (at + 2 ≤ length s) × (2 ≤ 6)
    room_number = (omega (arith, settings_long), omega arith)

    pub room_entries : at + 2 + length one ≤ length s
    room_entries = omega (arith, settings_long, one_long)

    pub room_bodies : at + (2 + 12 * n) + length two ≤ length s
    room_bodies = omega (arith, settings_long, two_long)

    pub settings_put :
        (t u v : List ℕ) (k : ℕ) → t ≡ splice s at (bytes_of 2 n) → u ≡ splice t (at + 2) one → k ≡ 2 + 12 * n → v ≡ splice u (at + k) two → v ≡ splice s at (settings_of sh)
    settings_put t u v k e f o g₀ =
        let g : v ≡ splice u (at + (2 + 12 * n)) two = g₀ ∙ ap (λ (i : ℕ). splice u (at + i) two) o in
        let l₁ : at + 2 ≡ at + length (bytes_of 2 n) = omega (arith, length_bytes 2 n) in
        let l₂ : at + (2 + 12 * n) ≡ at + length (bytes_of 2 n ++ one) = omega (arith, length-append (bytes_of 2 n) one, length_bytes 2 n, one_long) in
        let u-is : u ≡ splice s at (bytes_of 2 n ++ one) =
        f ∙ ap₂ (λ (r : List ℕ) (k : ℕ). splice r k one) e l₁ ∙ splice_more s at (bytes_of 2 n) one (omega arith)
        in
        g
        ∙ ap₂ (λ (r : List ℕ) (k : ℕ). splice r k two) u-is l₂
        ∙ splice_more s at (bytes_of 2 n ++ one) two (omega arith)
        ∙ ap (splice s at) (append_assoc (bytes_of 2 n) one two ∙ sym parts)

-- the five steps of an append
pub append_steps :
    (s t u v₁ v₂ w d : List ℕ) (n end x long : ℕ) → long ≡ length d → t ≡ splice (moved s (table_end n) (table_end n + 8) (end - table_end n)) (table_end n) (row_of x 0 long) →
    u ≡ splice t (end + 8) d → v₁ ≡ splice u 0 (bytes_of 2 (n + 1)) → v₂ ≡ splice v₁ 2 (bytes_of 2 x) → w ≡ linked v₂ (n + 1) →
    w ≡ appended s n end x d
unfolding appended bytes_of
append_steps s t u v₁ v₂ w d n end x long l e f g₁ g₂ k =
    let g : v₂ ≡ splice u 0 (bytes_of 2 (n + 1) ++ bytes_of 2 x) = g₂ ∙ ap (λ (i : List ℕ). splice i 2 (bytes_of 2 x)) g₁ ∙ splice_more u 0 (bytes_of 2 (n + 1)) (bytes_of 2 x) (omega arith) in
    k ∙ rw (g, f, e, l)

-- where the properties stand
module _ {s : List ℕ} (ok : Accepted s) where
  good_s : Good s
  good_s = good s ok

  pub no_extent : (n : ℕ) → Counted s properties n → n ≡ 0 → Extents s record { count = 0; entries = 0; from = 0; to = 0 }
  unfolding start_of
  no_extent n c z =
      let e : count s properties ≡ 0 = sym c.is ∙ z in
      let b : bodies_long s ≡ 0 = ap (λ (k : ℕ). end_from s properties (start_of s properties) k - start_of s properties) e ∙ omega arith in
      let l : entries_long s ≡ 0 = omega (arith, e) in
      record {
        count = sym e;
        few = omega arith;
        short = omega (arith, good_s.framed);
        within = omega arith;
        entries = sym (ap (λ (k : ℕ). take k (drop (base s properties) s)) l);
        base = λ f. absurd (f refl);
        start = λ f. absurd (f refl);
        order = omega arith;
        to = omega arith;
        long = sym b;
        bodies = sym (ap (λ (k : ℕ). take k (drop (start_of s properties) s)) b);
      }

  pub some_extent :
      (n : ℕ) (f l : PropertyEntry) → Counted s properties n → (n ≡ 0 → ⊥) → PropertyIn s 0 f → PropertyIn s (n - 1) l →
      Extents s record { count = n; entries = f.place; from = f.offset; to = l.offset + l.element * l.maximum }
  unfolding body_at body_end
  some_extent n f l c z hf hl =
      let b₀ : f.offset ≡ start_of s properties = hf.is.offset ∙ starts good_s properties 0 (omega arith) (omega (arith, c.is)) ∙ reached_first s properties in
      let e : n ≡ Prim.Native.Nat.suc (n - 1) = omega arith in
      let b₁ : l.offset + l.element * l.maximum ≡ start_of s groups =
      ap₂ ◌+◌ hl.is.offset (ap₂ ◌*◌ hl.is.element hl.is.maximum) ∙ sym (reached_next s properties (n - 1)) ∙ ap (reached s properties) (sym e ∙ c.is) ∙ reached_last s properties
      in
      let up = start_up good_s properties (omega arith) in
      let p₀ : f.place ≡ base s properties = hf.is.place ∙ omega arith in
      record {
        count = c.is;
        few = c.few;
        short = omega (arith, good_s.framed);
        within = omega (arith, p₀, c.is, start_first s, start_up good_s 0 (omega arith), up, b₁, hl.body);
        entries = ap₂ (λ (k o : ℕ). take (12 * k) (drop o s)) c.is p₀;
        base = λ f. p₀;
        start = λ f. b₀;
        order = omega (arith, b₀, b₁, up);
        to = omega (arith, hl.body);
        long = ap₂ ◌-◌ b₁ b₀;
        bodies = rw (b₀, b₁);
      }
