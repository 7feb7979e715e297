-- What is said where it is told how far a text was read, call after call.
use Rattle.std.proofs.Common.{true≢false, Option, Some, None, IfSome, IsSome, sym}
use Rattle.proof_text.specs.FirstProofs.{Progress}
use Rattle.proof_text.specs.Sources.{Both}

pub both-one : (o n : Option Progress) (P Q : Progress → Progress → Type 0) → ((a b : Progress) → P a b → Q a b) → Both o n P → Both o n Q
both-one None n P Q so h = tt
both-one (Some a) None P Q so h = absurd h
both-one (Some a) (Some b) P Q so h = so a b h

pub both-two : (o m n : Option Progress) (P Q R : Progress → Progress → Type 0) → ((a b c : Progress) → P a b → Q b c → R a c) → Both o m P → Both m n Q → Both o n R
both-two None m n P Q R so h k = tt
both-two (Some a) None n P Q R so h k = absurd h
both-two (Some a) (Some b) None P Q R so h k = absurd k
both-two (Some a) (Some b) (Some c) P Q R so h k = so a b c h k

pub both-three : (o l m n : Option Progress) (P Q S R : Progress → Progress → Type 0) → ((a b c d : Progress) → P a b → Q b c → S c d → R a d) → Both o l P → Both l m Q → Both m n S → Both o n R
both-three None l m n P Q S R so h i k = tt
both-three (Some a) None m n P Q S R so h i k = absurd h
both-three (Some a) (Some b) None n P Q S R so h i k = absurd i
both-three (Some a) (Some b) (Some c) None P Q S R so h i k = absurd k
both-three (Some a) (Some b) (Some c) (Some d) P Q S R so h i k = so a b c d h i k

-- what follows for where it stood before
pub both-before : (o n : Option Progress) (P : Progress → Progress → Type 0) (Q : Progress → Type 0) → ((a b : Progress) → P a b → Q a) → Both o n P → IfSome o Q
both-before None n P Q so h = tt
both-before (Some a) None P Q so h = absurd h
both-before (Some a) (Some b) P Q so h = so a b h

-- with what holds of where it stands afterwards
pub both-after : (o n : Option Progress) (P R : Progress → Progress → Type 0) (Q : Progress → Type 0) → ((a b : Progress) → P a b → Q b → R a b) → Both o n P → IfSome n Q → Both o n R
both-after None n P R Q so h k = tt
both-after (Some a) None P R Q so h k = absurd h
both-after (Some a) (Some b) P R Q so h k = so a b h k

-- of what holds of where it stood before
pub both-told : (o n : Option Progress) (Q : Progress → Type 0) (P : Progress → Progress → Type 0) → ((a b : Progress) → Q a → P a b) → IfSome o (λ _. IsSome n) → IfSome o Q → Both o n P
both-told None n Q P so tells h = tt
both-told (Some a) None Q P so tells h = absurd (true≢false (sym tells))
both-told (Some a) (Some b) Q P so tells h = so a b h

-- where it stands still
pub both-here : (o : Option Progress) (Q : Progress → Type 0) (P : Progress → Progress → Type 0) → ((a : Progress) → Q a → P a a) → IfSome o Q → Both o o P
both-here None Q P so h = tt
both-here (Some a) Q P so h = so a h

pub some-so : (o : Option Progress) (P Q : Progress → Type 0) → ((a : Progress) → P a → Q a) → IfSome o P → IfSome o Q
some-so None P Q so h = tt
some-so (Some a) P Q so h = so a h

pub some-all : (o : Option Progress) (P : Progress → Type 0) → ((a : Progress) → P a) → IfSome o P
some-all None P all = tt
some-all (Some a) P all = all a

pub some-two : (o : Option Progress) (P Q R : Progress → Type 0) → ((a : Progress) → P a → Q a → R a) → IfSome o P → IfSome o Q → IfSome o R
some-two None P Q R so h k = tt
some-two (Some a) P Q R so h k = so a h k

-- what holds of each, where it stands still
pub both-refl : (o : Option Progress) (P : Progress → Progress → Type 0) → ((a : Progress) → P a a) → Both o o P
both-refl None P so = tt
both-refl (Some a) P so = so a
