-- Worked examples: what reading answers to texts that are nearly right. Assumes nothing.
use Rattle.std.specs.Prelude.{◌≡◌, ℕ, List, [], ◌∷◌, Ok, Err, codes}
use Rattle.faults.specs.declared.Refusal.{Refusal}
use Rattle.faults.specs.declared.Refusal.TheVariants.{Number, Mark, Repeated, Ninth}
use Rattle.faults.specs.Faults.{text_fault_of}
use Rattle.groups.specs.declared.items.Sign.TheVariants.{Plus, Minus, Star}
use Rattle.reading.specs.Grammar.{item}
use Rattle.reading.specs.Reading.{read_group}

-- a text is refused so, at that byte
abbrev pub RefusedAt : List ℕ → Refusal → ℕ → Type 0
RefusedAt text r byte = read_group 0 text ≡ Err (text_fault_of r byte)

pub record Examples : Type 0 where
  pub any_order : read_group 0 (codes "(7* 6+ 5-)") ≡ Ok (item 5 Minus ∷ item 6 Plus ∷ item 7 Star ∷ [])
  pub two_spaces : RefusedAt (codes "(5-  6-)") Number 4
  pub zero_in_front : RefusedAt (codes "(05-)") Number 1
  pub no_items : RefusedAt (codes "()") Number 1
  pub too_high : RefusedAt (codes "(2097152+)") Number 1
  pub named_before : RefusedAt (codes "(5- 5+)") Repeated 4
  pub ninth_named_before : RefusedAt (codes "(1- 2- 3- 4- 5- 6- 7- 8- 1-)") Ninth 25
  pub no_space : RefusedAt (codes "(5-6-)") Mark 3
  pub no_bracket : RefusedAt (codes "(5-") Mark 3
  pub no_end : RefusedAt (codes "(5-) ") Mark 4
