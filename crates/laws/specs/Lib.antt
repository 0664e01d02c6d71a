-- LAWS of tests, lists and sums: a few definitions that other specs use (`flag`, `◌∈◌`, `any`, `all`, `keep`, `concat_map`, `Pairwise`, `first_true`, `list_to`,
-- `sum_to`, `every`, `With`, `Reordered`), and the facts about them. Here, and in no other crate, proofs stand in specs/: a law is read beside what it is about.
pub mod Tests
pub mod Members
pub mod Pairwise
pub mod First
pub mod Lists
pub mod Parts
pub mod Sums
pub mod Every
pub mod Reorder
