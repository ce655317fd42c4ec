mod Longer
mod Saying
