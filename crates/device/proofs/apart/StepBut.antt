-- A step on two sheets that are the same but at some positions, none of which it reads.
use Rattle.octets.proofs.Kit.{ℕ, zero, suc, ◌+◌, ◌-◌, ◌<◌, ◌≤◌, ◌≡◌, refl, sym, ap, ap₂, subst, ◌∙◌, ◌⊎◌, inl, inr, Bool, List, [], ◌∷◌, ◌++◌, length, get_or, replicate, length-replicate}
use Rattle.octets.proofs.Kit.{arith}
use Rattle.octets.{specs.{Bytes.bytes_of, Splice.splice}, proofs.Numbers.length_bytes}
use Rattle.sheet.{specs.{Layout.◌of◌, Rules.Accepted, But.But}, proofs.{rules.Good.good, alike.Buts.{Misses, part_same, run_byte, part_but, field_but, splice_but}}}
use Rattle.sheet.specs.Head as head
use Rattle.pdu.specs.Write.{encoded}
use Rattle.judge.specs.declared.{Session.Session, Store.Store, Answer.Answer, Decision.Decision}
use Rattle.judge.specs.declared.Store.TheVariants as store
use Rattle.judge.specs.declared.Answer.TheVariants as answer
use Rattle.device.specs.{Carry.{padded, build, bit_at, store_of, answer_of}, Safe.{StoreSafe, Safe}, Step.{Step, step_by}, Events.{bit, pressed, button_outcome, button_sheet}}
use Rattle.device.proofs.leaves.Bits.{length_build}

-- a store reads none of H: only a bit write reads where it stores
abbrev pub StoreSpares : (ℕ → Type 0) → Store → Type 0
StoreSpares H store.Nothing = Unit {0}
StoreSpares H (store.Number at w x) = Unit {0}
StoreSpares H (store.Data zeros at) = Unit {0}
StoreSpares H (store.Bits at n) = Misses H at n
StoreSpares H (store.Fill at n b) = Unit {0}

-- an answer, after the stores k and l, reads none of H, or what was just stored
abbrev pub AnswerSpares : (ℕ → Type 0) → List ℕ → Store → Store → Answer → Type 0
AnswerSpares H d k l answer.Silence = Unit {0}
AnswerSpares H d k l (answer.Plain p) = Unit {0}
AnswerSpares H d k l (answer.Number p w x) = Unit {0}
AnswerSpares H d k l (answer.Sheet p at n) = Misses H at n ⊎ ((k ≡ store.Data 0 at) × (l ≡ store.Nothing) × (length d ≡ n))
AnswerSpares H d k l (answer.Echo p) = Unit {0}

-- A DECISION THAT READS NONE OF H WHEN IT IS CARRIED OUT
abbrev pub Spares : (ℕ → Type 0) → List ℕ → Decision → Type 0
Spares H d k = StoreSpares H k.first × StoreSpares H k.second × AnswerSpares H d k.first k.second k.answer

-- a decision that reads none of H reads none of what is in H
module _ {H H' : ℕ → Type 0} (within : (p : ℕ) → H' p → H p) where
  store_fewer : (k : Store) → StoreSpares H k → StoreSpares H' k
  store_fewer store.Nothing h = tt
  store_fewer (store.Number at w x) h = tt
  store_fewer (store.Data z at) h = tt
  store_fewer (store.Bits at n) h = λ j l x. h j l (within _ x)
  store_fewer (store.Fill at n b) h = tt

  answer_fewer : (d : List ℕ) (k l : Store) (r : Answer) → AnswerSpares H d k l r → AnswerSpares H' d k l r
  answer_fewer d k l answer.Silence h = tt
  answer_fewer d k l (answer.Plain p) h = tt
  answer_fewer d k l (answer.Number p w x) h = tt
  answer_fewer d k l (answer.Sheet p at n) (inl h) = inl (λ j m x. h j m (within _ x))
  answer_fewer d k l (answer.Sheet p at n) (inr h) = inr h
  answer_fewer d k l (answer.Echo p) h = tt

  pub spares_fewer : (d : List ℕ) (k : Decision) → Spares H d k → Spares H' d k
  spares_fewer d k h =
      (store_fewer k.first h.0, store_fewer k.second h.1, answer_fewer d k.first k.second k.answer h.2)

build_same : (n : ℕ) (f g : ℕ → ℕ) → ((i : ℕ) → i < n → f i ≡ g i) → build n f ≡ build n g
unfolding build
build_same zero f g h = refl
build_same (suc n) f g h =
    ap₂ (λ (x : List ℕ) (y : ℕ). x ++ (y ∷ [])) (build_same n f g (λ i l. h i (omega arith))) (h n (omega arith))

module _ {H : ℕ → Type 0} {s s' : List ℕ} (b : But H s s') (d : List ℕ) where
  -- the bytes of a bit write
  pub bits_same : (at n : ℕ) → Misses H at n → build n (bit_at s' at n d) ≡ build n (bit_at s at n d)
  bits_same at n m = build_same n _ _ (λ i l. unfold bit_at in rw (b.others (at + i) (m i l)))

  -- a store
  pub store_but : (k : Store) → StoreSafe s d k → StoreSpares H k → But H (store_of s d k) (store_of s' d k)
  store_but store.Nothing h p = b
  store_but (store.Number at w x) h p = splice_but b at (bytes_of w x) (omega (arith, length_bytes w x))
  store_but (store.Data z at) h p = splice_but b at (padded z d) h
  store_but (store.Fill at n x) h p = splice_but b at (replicate n x) (omega (arith, length-replicate n x))
  store_but (store.Bits at n) h p =
      subst (λ (ds : List ℕ). But H (splice s at (build n (bit_at s at n d))) (splice s' at ds)) (sym (bits_same at n p))
      (splice_but b at (build n (bit_at s at n d)) (omega (arith, length_build n (bit_at s at n d))))

  -- the answer after the stores
  module _ (k l : Store) (h : StoreSafe s d k) (c : But H (store_of (store_of s d k) d l) (store_of (store_of s' d k) d l)) where
    abbrev T : List ℕ
    T = store_of (store_of s d k) d l

    abbrev T' : List ℕ
    T' = store_of (store_of s' d k) d l

    stored_same :
        (at n : ℕ) → k ≡ store.Data 0 at → l ≡ store.Nothing → length d ≡ n → (j : ℕ) → j < n → get_or T' (at + j) 0 ≡ get_or T (at + j) 0
    stored_same at n e u m j z =
        let w : at + length d ≤ length s = subst (λ (x : Store). StoreSafe s d x) e h in
        rw (e, u)
        (run_byte s' at d (omega (arith, b.long)) (at + j) (omega arith) (omega arith) ∙ sym (run_byte s at d w (at + j) (omega arith) (omega arith)))

    answer_but : (r : Answer) → AnswerSpares H d k l r → answer_of T' d r ≡ answer_of T d r
    answer_but answer.Silence p = refl
    answer_but (answer.Plain m) p = refl
    answer_but (answer.Number m w x) p = refl
    answer_but (answer.Sheet m at n) (inl p) = ap (encoded m) (part_but c at n p)
    answer_but (answer.Sheet m at n) (inr p) = ap (encoded m) (part_same T T' at n c.long (stored_same at n p.0 p.1 p.2))
    answer_but (answer.Echo m) p = refl

-- two steps with the same outcome, answer and session, whose sheets are the same but at these positions
pub record AlikeBut (H : ℕ → Type 0) (r r' : Step) : Type 0 where
  pub outcome : r'.outcome ≡ r.outcome
  pub answer : r'.answer ≡ r.answer
  pub session : r'.session ≡ r.session
  pub restarts : r'.restarts ≡ r.restarts
  pub sheet : But H r.sheet r'.sheet

-- A DECISION CARRIED OUT ON BOTH
pub step_but :
    {H : ℕ → Type 0} {s s' : List ℕ} → But H s s' → (q : Session) (d : List ℕ) (k : Decision) → Safe s d k → Spares H d k →
    AlikeBut H (step_by s q d k) (step_by s' q d k)
unfolding step_by
step_but {H} {s} {s'} b q d k ok p =
    record {
      outcome = refl;
      answer = answer_but b d k.first k.second ok.first left k.answer p.2;
      session = refl;
      restarts = refl;
      sheet = left;
    }
  where
    left : But H (store_of (store_of s d k.first) d k.second) (store_of (store_of s' d k.first) d k.second)
    left = store_but (store_but b d k.first ok.first p.0) d k.second ok.second p.1

-- THE BUTTON ON BOTH, the flags being none of these positions
module _ {H : ℕ → Type 0} {s s' : List ℕ} (b : But H s s') (ok : Accepted s) (ok' : Accepted s') (on : Bool) where
  pub press_outcome_lem : button_outcome s' ≡ button_outcome s
  unfolding button_outcome
  press_outcome_lem = rw (ok, ok')

  abbrev new : List ℕ
  new = bytes_of 1 (head.flags of s - head.programming s + bit on)

  pub press_but : Misses H (head.flags).at (head.flags).width → But H (button_sheet s on) (button_sheet s' on)
  unfolding button_sheet pressed
  press_but m =
      rw (ok, ok', field_but b head.flags m)
      (splice_but b (head.flags).at new (omega (arith, length_bytes 1 (head.flags of s - head.programming s + bit on), (good s ok).framed)))
