mod Runs
mod Acked
mod Outliving
mod Unopened
