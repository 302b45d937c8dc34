mod Entered
mod CoverWords
mod Words
mod Answered
mod AfterLaws
mod PairLaws
