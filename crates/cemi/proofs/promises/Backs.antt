-- WHAT WAS WRITTEN READS AS THESE FIELDS, with its additional information and its APDU. Assumes nothing.
use Rattle.octets.proofs.Kit.{ℕ, ◌+◌, ◌-◌, ◌*◌, ◌/◌, ◌%◌, ◌≤◌, ◌≡◌, refl, sym, ap, ap₂, subst, ◌∙◌, true, List, [], ◌∷◌, ◌++◌, append_assoc, add-zero, arith, length, get_or, take, drop}
use Rattle.octets.proofs.Kit.{length-append, get_or-append-add, drop_at, take-append_seam, take_all, le-leb}
use Rattle.std.specs.Prelude.{Ok}
use Rattle.octets.{specs.Bytes.num_at, proofs.Numbers.num_one}
use Rattle.cemi.specs.{Layout.{table, info_length, octet6, stated, ◌of◌, bytes_in, Fit}, Read.{fields_in, frame_in, read_frame, refusal_of}, Parts.{info_of, tpdu_of}}
use Rattle.cemi.specs.{Write.{numbers_of, under, front_bytes, encoded, frame_of, count_of, writable}, declared.{Fields.Fields, Frame.Frame}}
use Rattle.cemi.proofs.{Stores.length_table, promises.{Tables.{numbers_at, numbers_back}, Standards.{IsStandard, is_judged, accepted, standard_reads}}, Wrote.bounds}

pub length_under : (t : ℕ) (a : List ℕ) → length (under t a) ≡ length a
unfolding under
length_under t [] = refl
length_under t (x ∷ a) = refl

first_under : (t : ℕ) (a : List ℕ) → 1 ≤ length a → get_or (under t a) 0 0 ≡ t * 4 + get_or a 0 0 % 4
unfolding under
first_under t [] h = absurd (omega arith)
first_under t (x ∷ a) h = refl

module _ (f : Fields) (i a : List ℕ) where
  abbrev b : List ℕ
  b = encoded f i a

  abbrev tbl : List ℕ
  tbl = bytes_in table (numbers_of f (length a - 1))

  abbrev tail : List ℕ
  tail = under f.transport a

  -- all before octet 6
  abbrev head : List ℕ
  head = front_bytes f.code i ++ tbl

  split : b ≡ head ++ tail
  unfolding encoded
  split = sym (append_assoc (front_bytes f.code i) tbl tail)

  length_head : length head ≡ octet6 (length i)
  length_head = length-append (front_bytes f.code i) tbl ∙ omega (arith, length_table f (length a - 1))

  pub length_encoded : length b ≡ count_of (length i) (length a)
  length_encoded = ap length split ∙ length-append head tail ∙ omega (arith, length_head, length_under f.transport a)

  code_back : num_at b 0 1 ≡ f.code
  unfolding encoded
  code_back = num_one b 0

  info_back : info_length b ≡ length i
  unfolding encoded
  info_back = num_one b 1

  octet_back : 1 ≤ length a → num_at b (octet6 (info_length b)) 1 ≡ f.transport * 4 + get_or a 0 0 % 4
  octet_back h =
      num_one b (octet6 (info_length b))
      ∙ ap (λ (k : ℕ). get_or b (octet6 k) 0) info_back
      ∙ ap₂ (λ (z : List ℕ) (k : ℕ). get_or z k 0) split (sym length_head ∙ sym (add-zero (length head)))
      ∙ get_or-append-add head tail 0 0
      ∙ first_under f.transport a h

  module _ (fit : Fit table (numbers_of f (length a - 1))) where
    table_back : numbers_at (2 + info_length b) table b ≡ numbers_of f (length a - 1)
    unfolding encoded
    table_back =
        numbers_back table (numbers_of f (length a - 1)) (front_bytes f.code i) tail (2 + info_length b) 0 (refl, (refl, (refl, (refl, (refl, tt))))) fit
        (omega (arith, info_back))

    frame_back : 1 ≤ length a → frame_in b ≡ frame_of f i a
    frame_back h =
        let o : num_at b (octet6 (info_length b)) 1 ≡ f.transport * 4 + get_or a 0 0 % 4 = octet_back h in
        let t : num_at b (octet6 (info_length b)) 1 / 4 ≡ f.transport = omega arith in
        let w : num_at b (octet6 (info_length b)) 1 % 4 ≡ get_or a 0 0 % 4 = omega arith in
        made (table_back) code_back t w info_back
      where
        made :
            {c x y s d n tr lo l : ℕ} →
            x ∷ y ∷ s ∷ d ∷ n ∷ [] ≡ numbers_of f (length a - 1) → c ≡ f.code → tr ≡ f.transport → lo ≡ get_or a 0 0 % 4 → l ≡ length i →
            ◌≡◌ {A = Frame} record { fields = record { code = c; control1 = x; control2 = y; source = s; destination = d; transport = tr }; low = lo; info = l; stated = n } (frame_of f i a)
        made {c} {x} {y} {s} {d} {n} e p q r u =
            let at : (k : ℕ) → get_or (x ∷ y ∷ s ∷ d ∷ n ∷ []) k 0 ≡ get_or (numbers_of f (length a - 1)) k 0 = λ k. ap (λ (z : List ℕ). get_or z k 0) e in
            let e₀ : x ≡ f.control1 = at 0 in
            let e₁ : y ≡ f.control2 = at 1 in
            let e₂ : s ≡ f.source = at 2 in
            let e₃ : d ≡ f.destination = at 3 in
            let e₄ : n ≡ length a - 1 = at 4 in
            rw (e₀, e₁, e₂, e₃, e₄, p, q, r, u)

    -- READ BACK
    pub read_back : writable f (length i) (length a) ≡ true → read_frame b ≡ Ok (frame_of f i a)
    read_back w =
        let k = bounds f (length i) (length a) w in
        let e : frame_in b ≡ frame_of f i a = frame_back k.some in
        let z : refusal_of (length b) (length i) f (length a - 1) ≡ Ok tt =
        ap (λ (n : ℕ). refusal_of n (length i) f (length a - 1)) length_encoded ∙ is_judged (refusal_of (count_of (length i) (length a)) (length i) f (length a - 1)) k.judged in
        let s : IsStandard b = accepted (length b) (info_length b) (fields_in b) (stated of b) (subst (λ (g : Frame). refusal_of (length b) g.info g.fields g.stated ≡ Ok tt) (sym e) z) in
        standard_reads b s ∙ ap Ok e

  -- AND THE PARTS
  pub info_part : info_of (frame_of f i a) b ≡ i
  unfolding encoded
  info_part =
      let h : 2 + length i ≤ length b = omega (arith, length_encoded) in
      rw (le-leb (2 + length i) (length b) h) (take-append_seam i (tbl ++ tail))

  pub tpdu_part : 1 ≤ length a → tpdu_of (frame_of f i a) b ≡ tail
  tpdu_part n =
      let h : octet6 (length i) + (length a - 1 + 1) ≤ length b = omega (arith, length_encoded) in
      rw (le-leb (octet6 (length i) + (length a - 1 + 1)) (length b) h)
      (ap (λ (z : List ℕ). take (length a - 1 + 1) (drop (octet6 (length i)) z)) split
      ∙ ap (take (length a - 1 + 1)) (drop_at head tail (octet6 (length i)) length_head)
      ∙ take_all (length a - 1 + 1) tail (omega (arith, length_under f.transport a)))
