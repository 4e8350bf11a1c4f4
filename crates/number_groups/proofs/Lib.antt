-- Numbers are put into the stretches of their keys (`Grouping`), and lists lie in one (`Rowing`).
pub mod Grouping
pub mod Rowing
