use Rattle.std.proofs.Common.{◌≡◌, ℕ, List, Bool, true, false, bytes_eq, codes, refl, sym}
use Rattle.std.proofs.lemmas.Slice.Eq.{bytes_eq-Decides}
use Rattle.bibkit_settings.proofs.settings.OutputFormat.from_name.Goals as goal

-- if a text isn't `word`, comparing their bytes returns `false`
not_word : (word text : List ℕ) → (text ≡ word → ⊥) → bytes_eq word text ≡ false
not_word word text isnt = go (bytes_eq word text) refl where
  go : (b : Bool) → bytes_eq word text ≡ b → bytes_eq word text ≡ false
  go true is = absurd (isnt (sym ((bytes_eq-Decides word text).0 is)))
  go false is = is

pub returns-in_default : goal.returns-in_default
returns-in_default c =
    let name = c.args.name.now in
    let isnt = c.in_default in
    rw (
      not_word (codes "text") name isnt.not-text,
      not_word (codes "json") name isnt.not-json,
      not_word (codes "jsonl") name isnt.not-jsonl,
      not_word (codes "github") name isnt.not-github,
      not_word (codes "checkstyle") name isnt.not-checkstyle,
      not_word (codes "sarif") name isnt.not-sarif,
    )
    refl
