-- BOTH ENGINES GIVE THE SAME: `device::request` and `plain::request` have one contract, and it leaves no result open.
use Rattle.octets.proofs.Kit.{ℕ, ◌≡◌, sym, ap₂, subst, ◌∙◌, List, take}
use Rattle.device.specs.{Events.Called, Changed.Requested, declared.{Made.Made, Sessions.Sessions, Done.Done}}
use Rattle.plain.specs.Same.{Same}

-- for every sheet, accepted or not and under whichever rules, sessions, mode, connection, group address, APDU and buffer
pub engines_agree :
    (q : Sessions) (mode c group : ℕ) (a s o : List ℕ) (r r' : Done) (s₁ s₂ o₁ o₂ : List ℕ) →
    Called q mode c group a s o r s₁ o₁ → Called q mode c group a s o r' s₂ o₂ → Same r r' s₁ s₂ o₁ o₂
engines_agree q mode c group a s o r r' s₁ s₂ o₁ o₂ x y =
    let f = x.did in
    let g = y.did in
    let count = f.count ∙ sym g.count in
    let buffer = f.answer ∙ sym g.answer in
    record {
      outcome = f.outcome ∙ sym g.outcome;
      count = count;
      answer = ap₂ (λ (n : ℕ) (b : List ℕ). take n b) count buffer;
      buffer = buffer;
      sessions = f.sessions ∙ sym g.sessions;
      sheet = f.sheet ∙ sym g.sheet;
    }

-- the first engine by its own contract, which names parts besides, and the plain one, on sheets and buffers that hold the same
pub first_and_plain :
    (q : Sessions) (mode c group : ℕ) (a s s' o o' : List ℕ) (r : Made) (r' : Done) (s₁ s₂ o₁ o₂ : List ℕ) → s' ≡ s → o' ≡ o →
    Requested q mode c group a s o r s₁ o₁ → Called q mode c group a s' o' r' s₂ o₂ → Same r.done r' s₁ s₂ o₁ o₂
first_and_plain q mode c group a s s' o o' r r' s₁ s₂ o₁ o₂ e h x y =
    engines_agree q mode c group a s o r.done r' s₁ s₂ o₁ o₂ x.call
    (subst (λ (t : List ℕ). Called q mode c group a t o r' s₂ o₂) e (subst (λ (b : List ℕ). Called q mode c group a s' b r' s₂ o₂) h y))
