-- The commits of a log, one line after another.
use Rattle.std.proofs.Common.{◌≡◌, ℕ, ◌+◌, ◌<◌, ◌≤◌, List, [], ◌∷◌, ◌++◌, length, map, take, get_or, Option, Some, None, refl, sym, ap, ◌∙◌}
use Rattle.std.proofs.lemmas.List.{map-append, take_more, take_all}
use Rattle.client_state.specs.declared.commit.Commit.{Commit}
use Rattle.link_control.specs.Log.{Numbered, commits_in, put_before}
use Rattle.link_control.specs.declared.log.LineLog.{LineLog}
use Rattle.link_control.proofs.ClientLemmas.{made_in}

before-append : (commit : Option Numbered) (xs ys : List Numbered) → put_before commit (xs ++ ys) ≡ put_before commit xs ++ ys
before-append None xs ys = refl
before-append (Some commit) xs ys = refl

commits_in-append : (xs ys : List LineLog) → commits_in (xs ++ ys) ≡ commits_in xs ++ commits_in ys
commits_in-append [] ys = refl
commits_in-append (x ∷ xs) ys = ap (λ l. put_before x.commit l) (commits_in-append xs ys) ∙ before-append x.commit (commits_in xs) (commits_in ys)

-- one more commit, if there is one
pub commits_more : (lines : List LineLog) (n : ℕ) (fallback : LineLog) (commits commits_then : List Commit) → n < length lines
    → commits ≡ made_in (take n lines) → commits_then ≡ commits ++ map (λ commit. commit.1) (put_before (get_or lines n fallback).commit []) → commits_then ≡ made_in (take (n + 1) lines)
commits_more lines n fallback commits commits_then less so_far then_is =
    then_is ∙ ap (λ l. l ++ made_in (get_or lines n fallback ∷ [])) so_far
    ∙ sym
    (ap made_in (take_more lines n fallback less)
    ∙ ap (map (λ (commit : Numbered). commit.1)) (commits_in-append (take n lines) (get_or lines n fallback ∷ []))
    ∙ map-append (λ (commit : Numbered). commit.1) (commits_in (take n lines)) (commits_in (get_or lines n fallback ∷ [])))

-- once all lines were told
pub commits_all : (lines : List LineLog) (n : ℕ) (commits : List Commit) → length lines ≤ n → commits ≡ made_in (take n lines) → commits ≡ made_in lines
commits_all lines n commits past is = is ∙ ap made_in (take_all n lines past)
