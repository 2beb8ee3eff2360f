use Rattle.std.proofs.Common.{◌≡◌, true, Some, subst}
use Rattle.paths.specs.Sound.{IsSound}
use Rattle.claim.specs.Ways.{ways_of}
use Rattle.claim.specs.Claims.{TakesPath, path_of, IsSpending, IsWhole}
use Rattle.claim.specs.Judgement.{is_shell}
use Rattle.claim.proofs.Judged.{taken-here, taken-shell, accepted-sound, accepted-opens, whole-spelt}
use Rattle.claim.proofs.claims.Claim.path.Goals as goal

pub returns-clause-value : goal.returns-clause-value
returns-clause-value c =
    let i = c.self.inside in
    subst (λ v. TakesPath v i.path) c.self.view_is (taken-here (ways_of i.script) i.index i.slots i.place i.shell i.path c.self.invariant.0.at c.self.invariant.1)

pub returns-clause-at : goal.returns-clause-at
returns-clause-at c =
    let i = c.self.inside in
    subst (λ v. path_of v ≡ Some i.path) c.self.view_is c.self.invariant.0.at

pub returns-clause-shell : goal.returns-clause-shell
returns-clause-shell c =
    let i = c.self.inside in
    subst (λ v. is_shell i.path v.place v.shell ≡ true) c.self.view_is
    (taken-shell (record { ways = ways_of i.script; index = i.index; slots = i.slots; place = i.place; shell = i.shell }) i.path
    (taken-here (ways_of i.script) i.index i.slots i.place i.shell i.path c.self.invariant.0.at c.self.invariant.1))

pub returns-clause-sound : goal.returns-clause-sound
returns-clause-sound c =
    let i = c.self.inside in
    let ways = ways_of i.script in
    subst (λ v. IsSound v.ways.ops i.path) c.self.view_is
    (accepted-sound ways i.index i.slots i.place i.shell i.path (c.listed_paths_are_sound.ensures ways.ops ways.paths c.self.invariant.0.listed)
    (taken-here ways i.index i.slots i.place i.shell i.path c.self.invariant.0.at c.self.invariant.1))

pub returns-clause-spends : goal.returns-clause-spends
returns-clause-spends c =
    let i = c.self.inside in
    let ways = ways_of i.script in
    subst IsSpending c.self.view_is
    (accepted-opens ways i.index i.slots i.place i.shell i.script c.self.invariant.0.spells c.self.invariant.0.short (c.listed_paths_are_sound.ensures ways.ops ways.paths c.self.invariant.0.listed))

pub returns-clause-whole : goal.returns-clause-whole
returns-clause-whole c =
    let i = c.self.inside in
    subst IsWhole c.self.view_is
    (whole-spelt (record { ways = ways_of i.script; index = i.index; slots = i.slots; place = i.place; shell = i.shell }) i.script
    c.self.invariant.0.spells c.self.invariant.0.short c.self.invariant.0.listed c.self.invariant.1 c.self.invariant.2)
