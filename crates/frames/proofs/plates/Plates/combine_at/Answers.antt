use Rattle.std.proofs.Common.{◌≡◌, ℕ, sym, subst, arith}
use Rattle.std.specs.Option.{option_map}
use Rattle.groups.specs.Items.{CombinesTo}
use Rattle.placed.specs.Spelling.{spell}
use Rattle.placed.proofs.Spelled.{spelled_none}
use Rattle.frames.specs.Fitted.{fitted}
use Rattle.frames.proofs.Fitting.{place_found, place_missing}
use Rattle.frames.proofs.plates.Plates.combine_at.Goals as goal

pub returns-in_err-place : goal.returns-in_err-place
returns-in_err-place c =
    let f = c.args.self.now in
    rw c.from_residual.ensures
    (λ plus minus.
    let none = spelled_none (fitted f) c.args.a c.args.plate (place_missing (fitted f) c.args.plate f.rises (sym c.in_err-place.ensures)) in
    let z : ◌≡◌ {A = ℕ} 0 1 = cc in
    omega arith)

pub returns : goal.returns
returns c =
    let f = c.args.self.now in
    let ps = fitted f in
    let found = place_found ps c.args.plate c.in_ok-place.place f.rises (sym c.in_ok-place.ensures) in
    subst (λ p. CombinesTo p (spell ps c.args.a) (spell ps c.args.b) (option_map (spell ps) c.combine.result)) found.1 (c.combine.ensures ps f.rises found.0)
