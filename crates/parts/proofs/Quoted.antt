-- Bytes of the bodies are bytes of the sheet.
use Rattle.octets.proofs.Kit.{ℕ, ◌+◌, ◌≤◌, ◌<◌, ◌≡◌, sym, ◌∙◌, List, arith, length, take, drop, length-take, length-drop, ext_get_or, get_or-take, get_or-drop}
use Rattle.sheet.specs.Entries.{contents}
use Rattle.parts.specs.{declared.Parts.Parts, Records.Taken}

pub same_part :
    (s : List ℕ) (u : Parts) → Taken s u → (o n : ℕ) → contents s ≤ o → o + n ≤ length s → take n (drop o u.bodies) ≡ take n (drop o s)
same_part s u t o n h l =
    let a : length (take n (drop o u.bodies)) ≡ n = simp (length-take, length-drop) (omega (arith, t.room, t.counts.short)) in
    let b : length (take n (drop o s)) ≡ n = simp (length-take, length-drop) (omega arith) in
    ext_get_or 0 (take n (drop o u.bodies)) (take n (drop o s)) (a ∙ sym b)
    (λ j k.
    let m : j < n = omega (arith, a) in
    get_or-take n (drop o u.bodies) j 0 m ∙ get_or-drop o u.bodies j 0 ∙ t.bodies (o + j) (omega arith) (omega arith)
    ∙ sym (get_or-take n (drop o s) j 0 m ∙ get_or-drop o s j 0))
