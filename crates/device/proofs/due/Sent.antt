-- What writing an answer gives, where its row allows it: its PDU first, and its data behind it.
use Rattle.octets.proofs.Kit.{ℕ, ◌+◌, ◌≤◌, ◌≡◌, refl, ap, sym, subst, subst⁻¹, ◌⊎◌, ⊎_elim, ◌∙◌, Bool, true, false, List, [], ◌++◌, append-nil, arith, length, take, drop}
use Rattle.octets.{specs.{Bytes.bytes_of, Splice.splice}, proofs.{Numbers.length_bytes, Splices.splice_none, Truths.never}}
use Rattle.pdu.{specs.{Read.data_at, Write.encoded, declared.Pdu.Pdu}, proofs.{Stores.longer, promises.Writing.{length_encoded, has_room, same_room}}}
use Rattle.judge.specs.declared.Answer.{Answer}
use Rattle.judge.specs.declared.Answer.TheVariants as answer
use Rattle.device.specs.{Carry.{Filled, answer_of}, Safe.{AnswerSafe, Roomy, is_silent, pdu_in, data_behind, Behind}}

module _ (s d : List ℕ) (i : ℕ) (a : Answer) where
  pub none_behind : (o : List ℕ) → (a ≡ answer.Silence) ⊎ ((p : Pdu) × (a ≡ answer.Plain p)) → Behind i (data_behind s d a) i o o
  none_behind o e =
      let g : Behind i [] i o o = record { count = omega arith; holds = sym (splice_none o i) } in
      let P : Answer → Type 0 = λ x. Behind i (data_behind s d x) i o o in
      ⊎_elim (λ (f : a ≡ answer.Silence). subst⁻¹ P f g) (λ (f : (p : Pdu) × (a ≡ answer.Plain p)). subst⁻¹ P f.1 g) e

  -- and what it needs
  module _ (m : ℕ) (h : (16 ≤ m) × AnswerSafe s d a × (i + length (data_behind s d a) ≤ 16)) where
    pub number_needs : (p : Pdu) (w x : ℕ) → a ≡ answer.Number p w x → (16 ≤ m) × (i + w ≤ 16) × (w ≤ 6)
    number_needs p w x e =
        let P : Answer → Type 0 = λ x. (16 ≤ m) × AnswerSafe s d x × (i + length (data_behind s d x) ≤ 16) in
        let g = subst P e h in
        let l = length_bytes w x in
        (g.0, omega (arith, g.2, l), g.1.0)

-- a number's bytes have its width
pub number_behind : (i w x r : ℕ) (o e : List ℕ) → r ≡ i + w → e ≡ splice o i (bytes_of w x) → Behind i (bytes_of w x) r o e
number_behind i w x r o e c h = record { count = c ∙ ap (λ (n : ℕ). i + n) (sym (length_bytes w x)); holds = h }

-- nothing answered
silent_is : (s d : List ℕ) (a : Answer) (o : List ℕ) → is_silent a ≡ true → Filled (answer_of s d a) 0 o o
silent_is s d answer.Silence o h = record { count = refl; holds = sym (splice_none o 0) }
silent_is s d (answer.Plain p) o h = never h
silent_is s d (answer.Number p w x) o h = never h
silent_is s d (answer.Sheet p at n) o h = never h
silent_is s d (answer.Echo p) o h = never h

pub silence : (s d : List ℕ) (a : Answer) (t : Bool) (o : List ℕ) → t ≡ is_silent a → t ≡ true → Filled (answer_of s d a) 0 o o
silence s d a t o e h = silent_is s d a o (sym e ∙ h)

-- any other answer: there is room for it, and its bytes are those of its PDU and its data
has_buffer : (n : ℕ) (a : Answer) → is_silent a ≡ false → Roomy n a → 16 ≤ n
has_buffer n answer.Silence h r = never (sym h)
has_buffer n (answer.Plain p) h r = r
has_buffer n (answer.Number p w x) h r = r
has_buffer n (answer.Sheet p at m) h r = r
has_buffer n (answer.Echo p) h r = r

all_room : (s d : List ℕ) (a : Answer) → is_silent a ≡ false → AnswerSafe s d a → data_at (pdu_in a) + length (data_behind s d a) ≤ 16
all_room s d answer.Silence h k = never (sym h)
all_room s d (answer.Plain p) h k = has_room p [] k
all_room s d (answer.Number p w x) h k = has_room p (bytes_of w x) k.1
all_room s d (answer.Sheet p at n) h k = has_room p (take n (drop at s)) k.2
all_room s d (answer.Echo p) h k = has_room p d k

all_bytes_lem : (s d : List ℕ) (a : Answer) → is_silent a ≡ false → answer_of s d a ≡ encoded (pdu_in a) (data_behind s d a)
all_bytes_lem s d answer.Silence h = never (sym h)
all_bytes_lem s d (answer.Plain p) h = refl
all_bytes_lem s d (answer.Number p w x) h = refl
all_bytes_lem s d (answer.Sheet p at n) h = refl
all_bytes_lem s d (answer.Echo p) h = refl

-- a PDU with no data, and data behind it
joined : (p : Pdu) (d : List ℕ) → encoded p [] ++ d ≡ encoded p d
unfolding encoded
joined p d = simp append-nil

module _ (s d : List ℕ) (a : Answer) (t : Bool) (p : Pdu) (o : List ℕ) (h : Roomy (length o) a × AnswerSafe s d a) (t-is : t ≡ is_silent a)
    (other : t ≡ false) (p-is : p ≡ pdu_in a) where
  spoken : is_silent a ≡ false
  spoken = sym t-is ∙ other

  buffer : 16 ≤ length o
  buffer = has_buffer (length o) a spoken h.0

  room : data_at p + length (data_behind s d a) ≤ 16
  room = subst (λ (q : Pdu). data_at q + length (data_behind s d a) ≤ 16) (sym p-is) (all_room s d a spoken h.1)

  pub pdu_needs : (16 ≤ length o) × (data_at p + 0 ≤ 16)
  pdu_needs = (buffer, omega (arith, room))

  module _ (i : ℕ) (e : List ℕ) (i-is : i ≡ data_at p + 0) (begun : e ≡ splice o 0 (encoded p [])) where
    pub data_needs : (16 ≤ length e) × AnswerSafe s d a × (i + length (data_behind s d a) ≤ 16)
    data_needs =
        let l : length e ≡ length o = same_room p [] o e buffer pdu_needs.1 begun in
        (omega (arith, l, buffer), h.1, omega (arith, i-is, room))

    pub all_sent : (r : ℕ) (e₂ : List ℕ) → Behind i (data_behind s d a) r e e₂ → Filled (answer_of s d a) r o e₂
    all_sent r e₂ b =
        let x : List ℕ = data_behind s d a in
        let l : length (encoded p []) ≡ i = length_encoded p [] ∙ sym i-is in
        let z : answer_of s d a ≡ encoded p x = all_bytes_lem s d a spoken ∙ ap (λ (q : Pdu). encoded q x) (sym p-is) in
        record {
          count = b.count ∙ omega (arith, l, length_encoded p [], length_encoded p x) ∙ sym (ap length z);
          holds = longer o e e₂ (encoded p []) x i l begun b.holds ∙ ap (splice o 0) (joined p x ∙ sym z);
        }
